use Rattle.std.proofs.Common.{rules, ℤ, subst, FitsSigned, to_z-of_z, w32}
use Rattle.std.specs.Bool.{OnTrue}
use Rattle.it_space.specs.Sums.{number_at}
use Rattle.it_vectors.specs.Quotients.{IsTold}
use Rattle.it_vectors.proofs.Quotients.{said_of_more}
use Rattle.it_vectors.proofs.narrow_numbers.are_told.Goals as goal

pub loop-j-preserved : goal.loop-j-preserved
loop-j-preserved c =
    let fv : FitsSigned w32 c.args.by.now.value = search rules in
    let fi : FitsSigned w32 c.args.by.now.inverse = search rules in
    let fr : FitsSigned w32 c.read.result = search rules in
    let here = simp to_z-of_z at c.is_told-all.ensures in
    said_of_more (λ j. IsTold c.args.by.now (number_at c.args.row.now j)) c.args.from c.loop-j.j c.loop-j.all c.is_told-all.result c.loop-j.invariant
    (subst (λ (z : ℤ). OnTrue c.is_told-all.result (IsTold c.args.by.now z)) c.read.ensures here)
