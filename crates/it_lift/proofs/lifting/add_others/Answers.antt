use Rattle.std.proofs.Common.{◌∙◌, sym, rules, ◌^◌, ◌<◌, ◌≤◌, ℕ, ℤ, List, FitsSigned, to_z-of_z, ap, subst, arith}
use Rattle.it_space.specs.Answers.{certificate_view}
use Rattle.it_space.specs.Rows.{value}
use Rattle.it_closure.specs.declared.dependences.Dependence.{Dependence}
use Rattle.it_elemental.specs.Generators.{generators_of}
use Rattle.it_lift.specs.Fits.{WeightSumsFit}
use Rattle.it_lift.specs.Lifts.{excess, moves_of}
use Rattle.it_space.specs.Sums.{number_at}
use Rattle.it_lift.specs.Sums.{AreWeightsAdded}
use Rattle.it_lift.proofs.AllSteps.{others-more, others-stop, moves_found}
use Rattle.it_lift.proofs.EmptySteps.{excess_within, number_below}
use Rattle.it_lift.proofs.lifting.add_others.Goals as goal
use mir.Syntax.{w128}
use Rattle.it_space.proofs.MixLemmas.{where_fault}

pub add_moves-requires-clause-within : goal.add_moves-requires-clause-within
add_moves-requires-clause-within c =
    let f : FitsSigned w128 c.in_ok-left.left = search rules in
    rw (to_z-of_z f, c.in_ok-left.ensures.1) (excess_within (certificate_view c.args.collapsed.now) (value c.args.target.now)
    (generators_of c.args.problem.now) c.from_number-set.result c.in_ok-left.ensures.0)

pub returns-in_err-add_moves-clause-wide : goal.returns-in_err-add_moves-clause-wide
returns-in_err-add_moves-clause-wide c =
    let n : ℕ = c.args.dependences.now.space.variables in
    let ds : List Dependence = c.args.dependences.now.list in
    let m : ℕ = c.loop-number.number in
    let e : ℕ → ℤ = excess (certificate_view c.args.collapsed.now) (value c.args.target.now) (generators_of c.args.problem.now) in
    let below : m < 2 ^ n = number_below m c.space.result.variables n c.loop-number-test.true
    (rw c.space.ensures.value c.facts.ensures.space.few) (ap (λ s. s.variables) (c.requires.space ∙ sym c.space.ensures.value)) in
    let f : FitsSigned w128 c.in_ok-left.left = search rules in
    let from : 1 ≤ m = omega arith in
    let is = moves_found n ds e m c.from_number-set.result c.in_ok-left.left from c.from_number-set.ensures c.in_ok-left.ensures.1 in
    let wide = simp to_z-of_z at c.in_err-add_moves.ensures.wide in
    let stops = where_fault wide (λ w. others-stop (moves_of n ds e) m n c.args.sums.now c.loop-number.sums from below
    c.loop-number.invariant (subst (λ (ms : List (ℕ × ℤ)). ¬ (WeightSumsFit (number_at c.loop-number.sums) ms)) is w)) in
    search (rules, stops)

pub loop-number-preserved : goal.loop-number-preserved
loop-number-preserved c =
    let n : ℕ = c.args.dependences.now.space.variables in
    let ds : List Dependence = c.args.dependences.now.list in
    let m : ℕ = c.loop-number.number in
    let e : ℕ → ℤ = excess (certificate_view c.args.collapsed.now) (value c.args.target.now) (generators_of c.args.problem.now) in
    let f : FitsSigned w128 c.in_ok-left.left = search rules in
    let from : 1 ≤ m = omega arith in
    let is = moves_found n ds e m c.from_number-set.result c.in_ok-left.left from c.from_number-set.ensures c.in_ok-left.ensures.1 in
    let added = simp to_z-of_z at c.in_ok-add_moves.ensures.added in
    others-more (moves_of n ds e) m c.args.sums.now c.loop-number.sums c.add_moves.new.sums from c.loop-number.invariant
    (subst (AreWeightsAdded c.loop-number.sums c.add_moves.new.sums) is added)
