use Rattle.std.proofs.Common.{ℕ, ℤ, pos, ◌*ℤ◌, refl, arith, get_or}
use Rattle.it_terms.specs.Sums.{constraint_value}
use Rattle.it_terms.proofs.SumLemmas.{item_read, part_added-more, weights_form}
use Rattle.it_terms.proofs.sums.add_constraints.Goals as goal

pub loop-weight-preserved : goal.loop-weight-preserved
loop-weight-preserved c =
    let i = c.loop-weight.weight-index in
    let values = constraint_value c.args.constraints.now in
    let weight : ℕ × ℤ = get_or c.args.weights.now i (0, pos 0) in
    part_added-more (weights_form values) (λ p. weight.1 *ℤ values p weight.0) c.args.sums.now c.loop-weight.sums c.add_constraint.new.sums
    c.args.weights.now i weight (omega arith) (item_read c.args.weights.now i (0, pos 0) (omega arith))
    (λ p. refl) c.in_ok-add_constraint.ensures c.loop-weight.invariant
