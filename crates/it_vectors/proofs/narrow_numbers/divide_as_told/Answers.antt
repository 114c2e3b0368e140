use Rattle.std.proofs.Common.{rules, length, ◌≡◌, ◌<◌, ◌*ℤ◌, FitsSigned, to_z-of_z, w32, ap, ◌∙◌, ℤ, arith}
use Rattle.it_space.specs.Sums.{number_at}
use Rattle.it_vectors.specs.Quotients.{likely_quotient_of}
use Rattle.it_vectors.proofs.Items.{set_done, set_rest}
use Rattle.it_vectors.proofs.narrow_numbers.divide_as_told.Goals as goal

pub loop-j-preserved : goal.loop-j-preserved
loop-j-preserved c =
    let l : c.loop-j.j < length c.loop-j.row = search rules in
    let fr : FitsSigned w32 c.read.result = search rules in
    let fi : FitsSigned w32 c.args.by.now.inverse = search rules in
    let f : FitsSigned w32 c.likely_quotient.result = search rules in
    let q = simp to_z-of_z at c.likely_quotient.ensures in
    let here : c.read.result ≡ number_at c.args.row.now c.loop-j.j = c.read.ensures ∙ c.loop-j.invariant.rest c.loop-j.j (omega arith) in
    rw (to_z-of_z f) record {
      same_length = search rules;
      done = set_done c.loop-j.row c.loop-j.j c.likely_quotient.result (λ j z. z *ℤ c.args.by.now.value ≡ number_at c.args.row.now j) l
          c.loop-j.invariant.done
          (ap (λ (z : ℤ). z *ℤ c.args.by.now.value) (q ∙ ap (likely_quotient_of c.args.by.now.shift c.args.by.now.inverse) here)
          ∙ c.requires.told c.loop-j.j (omega (arith, l, c.loop-j.invariant.same_length)));
      rest = set_rest c.loop-j.row c.args.row.now c.loop-j.j c.likely_quotient.result c.loop-j.invariant.rest;
    }
