use Rattle.std.proofs.Common.{rules, to_z, of_z, length, slice_set, slice_index_or, ◌≡◌, ◌<◌, ◌+◌, ◌+ℤ◌, ◌*ℤ◌, neg_ℤ, FitsSigned, to_z-of_z, w64, ap, ◌∙◌, arith}
use Rattle.std.proofs.lemmas.List.{length-set}
use Rattle.it_vectors.specs.Places.{IsNextPlace}
use Rattle.it_space.specs.Sums.{number_at}
use Rattle.it_vectors.proofs.Items.{set_done, set_rest}
use Rattle.it_vectors.proofs.Places.{nulls_are_passed}
use Rattle.it_vectors.proofs.numbers.subtract_times.Goals as goal

pub loop-k-preserved : goal.loop-k-preserved
loop-k-preserved c =
    let l : c.loop-k.k < length c.loop-k.row = search rules in
    let f : FitsSigned w64 c.less_product.result = search rules in
    let e = c.less_product.ensures in
    let n : IsNextPlace c.args.by.now (c.loop-k.k + 1) (slice_index_or c.args.next.now (c.loop-k.k + 1) 0) = c.requires.places.each
    (c.loop-k.k + 1) (omega (arith, l, c.loop-k.invariant.same_length, c.requires.even)) in
    let rest = set_rest c.loop-k.row c.args.row.now c.loop-k.k c.less_product.result c.loop-k.invariant.rest in
    rw (to_z-of_z f) record {
      same_length = search rules;
      within = omega (arith, n.within, length-set c.loop-k.row c.loop-k.k c.less_product.result, c.loop-k.invariant.same_length, c.requires.even);
      done = nulls_are_passed (slice_set c.loop-k.row c.loop-k.k c.less_product.result) c.args.row.now c.args.by.now
          (to_z w64 (of_z w64 c.args.b)) (c.loop-k.k + 1) (slice_index_or c.args.next.now (c.loop-k.k + 1) 0) n
          (set_done c.loop-k.row c.loop-k.k c.less_product.result (λ k z. z
          ≡ number_at c.args.row.now k +ℤ neg_ℤ (number_at c.args.by.now k *ℤ to_z w64 (of_z w64 c.args.b))) l c.loop-k.invariant.done
          (e ∙ ap (λ z. z +ℤ neg_ℤ (number_at c.args.by.now c.loop-k.k *ℤ to_z w64 (of_z w64 c.args.b)))
          (c.loop-k.invariant.rest c.loop-k.k (omega arith)))) rest;
      rest = λ k h. rest k (omega (arith, n.after, h));
    }
