use Rattle.std.proofs.Common.{rules, ◌<◌, ℕ, ℤ, pos, List, FitsSigned, to_z, get_or, length, to_z-of_z, arith}
use Rattle.std.proofs.lemmas.List.{get_or_default}
use Rattle.it_space.specs.Rows.{one_at}
use Rattle.it_elemental.specs.Generators.{generators_of}
use Rattle.it_lift.proofs.FallSteps.{falling-more, falling-stops}
use Rattle.it_lift.proofs.excesses.left_of.Goals as goal
use mir.Syntax.{w128}

pub returns-in_err-left : goal.returns-in_err-left
returns-in_err-left c =
    let items : List (ℕ × ℤ) = c.args.weights.now in
    let i : ℕ = c.loop-index.index-index in
    let w : ℕ × ℤ = get_or items i (0, pos 0) in
    let below : i < length items = omega arith in
    let weight_fits : FitsSigned w128 w.1 = search rules in
    let coefficient_fits : FitsSigned w128 c.coefficient_at_set.result = search rules in
    let whole_fits : FitsSigned w128 c.args.whole = c.ranges.whole in
    let wide = simp to_z-of_z at c.in_err-left.ensures in
    let stops = falling-stops items (λ i. (generators_of c.args.problem.now).form i (one_at c.args.set)) c.args.whole i
    (to_z w128 c.loop-index.left-bits) c.coefficient_at_set.result w below
    (get_or_default items i (0, pos 0) w below) c.coefficient_at_set.ensures wide (simp to_z-of_z at c.loop-index.invariant) in
    search (rules, stops)

pub loop-index-preserved : goal.loop-index-preserved
loop-index-preserved c =
    let items : List (ℕ × ℤ) = c.args.weights.now in
    let i : ℕ = c.loop-index.index-index in
    let w : ℕ × ℤ = get_or items i (0, pos 0) in
    let below : i < length items = omega arith in
    let weight_fits : FitsSigned w128 w.1 = search rules in
    let coefficient_fits : FitsSigned w128 c.coefficient_at_set.result = search rules in
    let whole_fits : FitsSigned w128 c.args.whole = c.ranges.whole in
    let left_fits : FitsSigned w128 c.in_ok-left.left = search rules in
    let step = simp to_z-of_z at c.in_ok-left.ensures in
    rw (to_z-of_z left_fits, to_z-of_z whole_fits) (falling-more items (λ i. (generators_of c.args.problem.now).form i (one_at c.args.set))
    c.args.whole i (to_z w128 c.loop-index.left-bits) c.in_ok-left.left c.coefficient_at_set.result w below
    (get_or_default items i (0, pos 0) w below) c.coefficient_at_set.ensures step.0 step.1 (simp to_z-of_z at c.loop-index.invariant))
