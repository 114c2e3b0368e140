use Rattle.std.proofs.Common.{rules, ◌∙◌, ap, FitsSigned, to_z-of_z, w32, unsigned_abs}
use Rattle.it_number.specs.Gcd.{gcd}
use Rattle.it_vectors.proofs.Quotients.{part_begins, part_by_one, part_more}
use Rattle.it_vectors.proofs.narrow_numbers.shared_one_by_one.Goals as goal

pub loop-k-init : goal.loop-k-init
loop-k-init c = part_begins c.args.row.now c.args.from c.args.earlier.value c.requires.some

pub returns-then-is_one : goal.returns-then-is_one
returns-then-is_one c = part_by_one c.args.row.now c.args.from c.args.to c.args.earlier.value c.loop-k.shared.value c.if-is_one.ensures

pub loop-k-preserved : goal.loop-k-preserved
loop-k-preserved c =
    let f : FitsSigned w32 c.read.result = search rules in
    part_more c.args.row.now c.args.from c.loop-k.k c.args.earlier.value c.loop-k.shared.value c.shared_with-shared.result.value c.read.result
    (c.shared_with-shared.ensures ∙ ap (λ n. gcd n c.loop-k.shared.value)
    (c.from.ensures ∙ c.unsigned_abs.ensures.value ∙ ap unsigned_abs (to_z-of_z f))) c.read.ensures c.loop-k.invariant
