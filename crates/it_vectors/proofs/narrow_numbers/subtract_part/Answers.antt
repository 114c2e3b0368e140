use Rattle.std.proofs.Common.{rules, to_z, of_z, length, ◌≡◌, ◌<◌, ◌≤◌, ◌+ℤ◌, ◌*ℤ◌, neg_ℤ, pos, FitsSigned, to_z-of_z, w32, ap, ◌∙◌, arith}
use Rattle.std.proofs.lemmas.List.{get_or-set_other}
use Rattle.it_space.specs.Sums.{number_at}
use Rattle.it_vectors.proofs.Items.{set_done, set_rest}
use Rattle.it_vectors.proofs.narrow_numbers.subtract_part.Goals as goal

pub loop-k-preserved : goal.loop-k-preserved
loop-k-preserved c =
    let l : c.loop-k.k < length c.loop-k.row = search rules in
    let f : FitsSigned w32 c.less_product.result = search rules in
    let from : c.args.from ≤ c.loop-k.k = search rules in
    rw (to_z-of_z f) record {
      same_length = search rules;
      before = λ k h. get_or-set_other c.loop-k.row c.loop-k.k k c.less_product.result (pos 0) (λ e. omega (arith, e, h, from)) ∙ c.loop-k.invariant.before k h;
      done = λ k h m. set_done c.loop-k.row c.loop-k.k c.less_product.result
          (λ k z. c.args.from ≤ k → z ≡ number_at c.args.row.now k +ℤ neg_ℤ (number_at c.args.by.now k *ℤ to_z w32 (of_z w32 c.args.b))) l
          (λ k m h. c.loop-k.invariant.done k h m)
          (λ h. c.less_product.ensures ∙ ap (λ z. z +ℤ neg_ℤ (number_at c.args.by.now c.loop-k.k *ℤ to_z w32 (of_z w32 c.args.b)))
          (c.loop-k.invariant.rest c.loop-k.k (omega arith))) k m h;
      rest = set_rest c.loop-k.row c.args.row.now c.loop-k.k c.less_product.result c.loop-k.invariant.rest;
    }
