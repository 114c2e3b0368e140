use Rattle.std.proofs.Common.{rules, to_z, of_z, length, ◌≡◌, ◌<◌, ◌+ℤ◌, ◌*ℤ◌, neg_ℤ, FitsSigned, to_z-of_z, w32, ap, ◌∙◌, arith}
use Rattle.it_space.specs.Sums.{number_at}
use Rattle.it_vectors.proofs.Items.{set_done, set_rest}
use Rattle.it_vectors.proofs.narrow_numbers.multiply_and_subtract.Goals as goal

pub plain_number-requires-clause-bound : goal.plain_number-requires-clause-bound
plain_number-requires-clause-bound c =
    let l : c.loop-k.k < length c.args.by.now = search (rules, c.loop-k.invariant.same_length, c.requires.even) in
    let fa : FitsSigned w32 c.args.a = c.ranges.a in
    let fb : FitsSigned w32 c.args.b = c.ranges.b in
    simp to_z-of_z (rw (c.loop-k.invariant.rest c.loop-k.k (omega arith)) (c.requires.bound c.loop-k.k l))

pub loop-k-preserved : goal.loop-k-preserved
loop-k-preserved c =
    let l : c.loop-k.k < length c.loop-k.row = search rules in
    let f : FitsSigned w32 c.plain_number.result = search rules in
    let e = c.plain_number.ensures in
    rw (to_z-of_z f) record {
      same_length = search rules;
      done = set_done c.loop-k.row c.loop-k.k c.plain_number.result (λ k z. z
          ≡ number_at c.args.row.now k *ℤ to_z w32 (of_z w32 c.args.a) +ℤ neg_ℤ (number_at c.args.by.now k *ℤ to_z w32 (of_z w32 c.args.b)))
          l c.loop-k.invariant.done
          (e ∙ ap (λ z. z *ℤ to_z w32 (of_z w32 c.args.a) +ℤ neg_ℤ (number_at c.args.by.now c.loop-k.k *ℤ to_z w32 (of_z w32 c.args.b)))
          (c.loop-k.invariant.rest c.loop-k.k (omega arith)));
      rest = set_rest c.loop-k.row c.args.row.now c.loop-k.k c.plain_number.result c.loop-k.invariant.rest;
    }
