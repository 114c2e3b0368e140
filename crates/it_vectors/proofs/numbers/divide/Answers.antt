use Prim.Native.Nat.{◌∣◌}
use Rattle.std.proofs.Common.{rules, ◌≡◌, ℤ, ◌<◌, ◌*ℤ◌, pos, unsigned_abs, ◌∙◌, sym, subst, FitsSigned, to_z-of_z, w64, length, arith}
use Rattle.it_space.specs.Sums.{number_at}
use Rattle.it_vectors.proofs.Items.{set_done, set_rest}
use Rattle.it_vectors.proofs.Divisions.{whole_over}
use Rattle.it_vectors.proofs.numbers.divide.Goals as goal

pub quotient-requires-clause-z : goal.quotient-requires-clause-z
quotient-requires-clause-z c =
    let f : FitsSigned w64 c.read.result = search rules in
    let l : c.loop-k.k < length c.args.row.now = search (rules, c.loop-k.invariant.same_length) in
    simp to_z-of_z (rw (c.read.ensures, c.loop-k.invariant.rest c.loop-k.k (omega arith)) (c.requires.row c.loop-k.k l))

pub loop-k-preserved : goal.loop-k-preserved
loop-k-preserved c =
    let f : FitsSigned w64 c.read.result = search rules in
    let g : FitsSigned w64 c.quotient.result = search rules in
    let l : c.loop-k.k < length c.loop-k.row = search rules in
    let m : c.loop-k.k < length c.args.row.now = omega (arith, l, c.loop-k.invariant.same_length) in
    let x : c.read.result ≡ number_at c.args.row.now c.loop-k.k = c.read.ensures ∙ c.loop-k.invariant.rest c.loop-k.k (omega arith) in
    let y = simp to_z-of_z at c.quotient.ensures in
    rw (to_z-of_z g) record {
      same_length = search rules;
      done = set_done c.loop-k.row c.loop-k.k c.quotient.result (λ k z. z *ℤ pos c.args.shared.now.value ≡ number_at c.args.row.now k) l c.loop-k.invariant.done
          (whole_over c.read.result c.quotient.result c.args.shared.now.value
          (subst (λ (z : ℤ). c.args.shared.now.value ∣ unsigned_abs z) (sym x) (c.requires.divides.each c.loop-k.k m)) y ∙ x);
      rest = set_rest c.loop-k.row c.args.row.now c.loop-k.k c.quotient.result c.loop-k.invariant.rest;
    }
