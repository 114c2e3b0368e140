use Rattle.std.proofs.Common.{rules, ℕ, ℤ, List, FitsSigned, to_z-of_z, subst}
use Rattle.it_space.specs.Answers.{certificate_view}
use Rattle.it_space.specs.Rows.{value}
use Rattle.it_closure.specs.declared.dependences.Dependence.{Dependence}
use Rattle.it_elemental.specs.Generators.{generators_of}
use Rattle.it_lift.specs.Fits.{EmptyFits, WeightSumsFit}
use Rattle.it_lift.specs.Lifts.{excess, moves_of}
use Rattle.it_space.specs.Sums.{number_at}
use Rattle.it_lift.specs.Sums.{AreWeightsAdded}
use Rattle.it_lift.proofs.AllSteps.{all-added, first-stops, later-stops, first_found}
use Rattle.it_lift.proofs.lifting.add_all.Goals as goal
use mir.Syntax.{w128}
use Rattle.it_space.proofs.MixLemmas.{where_fault}

pub returns-in_err-add_moves-clause-wide : goal.returns-in_err-add_moves-clause-wide
returns-in_err-add_moves-clause-wide c =
    let n : ℕ = c.args.dependences.now.space.variables in
    let ds : List Dependence = c.args.dependences.now.list in
    let e : ℕ → ℤ = excess (certificate_view c.args.collapsed.now) (value c.args.target.now) (generators_of c.args.problem.now) in
    let f : FitsSigned w128 c.in_ok-empty.empty = search rules in
    let is = first_found n ds e c.empty.result c.in_ok-empty.empty c.empty.ensures c.in_ok-empty.ensures.value in
    let wide = simp to_z-of_z at c.in_err-add_moves.ensures.wide in
    let stops = where_fault wide (λ w. first-stops (moves_of n ds e) n c.args.sums.now
    (EmptyFits n ds (value c.args.target.now) (generators_of c.args.problem.now) (certificate_view c.args.collapsed.now))
    (subst (λ (ms : List (ℕ × ℤ)). ¬ (WeightSumsFit (number_at c.args.sums.now) ms)) is w)) in
    search (rules, stops)

pub returns-in_err-add_others-clause-wide : goal.returns-in_err-add_others-clause-wide
returns-in_err-add_others-clause-wide c =
    let n : ℕ = c.args.dependences.now.space.variables in
    let ds : List Dependence = c.args.dependences.now.list in
    let e : ℕ → ℤ = excess (certificate_view c.args.collapsed.now) (value c.args.target.now) (generators_of c.args.problem.now) in
    let f : FitsSigned w128 c.in_ok-empty.empty = search rules in
    let is = first_found n ds e c.empty.result c.in_ok-empty.empty c.empty.ensures c.in_ok-empty.ensures.value in
    let added = simp to_z-of_z at c.in_ok-add_moves.ensures.added in
    let stops = where_fault c.in_err-add_others.ensures.wide (later-stops (moves_of n ds e) n c.args.sums.now c.add_moves.new.sums
    (EmptyFits n ds (value c.args.target.now) (generators_of c.args.problem.now) (certificate_view c.args.collapsed.now))
    (subst (AreWeightsAdded c.args.sums.now c.add_moves.new.sums) is added)) in
    search (rules, stops)

pub returns-clause-added : goal.returns-clause-added
returns-clause-added c =
    let n : ℕ = c.args.dependences.now.space.variables in
    let ds : List Dependence = c.args.dependences.now.list in
    let e : ℕ → ℤ = excess (certificate_view c.args.collapsed.now) (value c.args.target.now) (generators_of c.args.problem.now) in
    let f : FitsSigned w128 c.in_ok-empty.empty = search rules in
    let is = first_found n ds e c.empty.result c.in_ok-empty.empty c.empty.ensures c.in_ok-empty.ensures.value in
    let added = simp to_z-of_z at c.in_ok-add_moves.ensures.added in
    all-added (moves_of n ds e) n c.args.sums.now c.add_moves.new.sums c.add_others.new.sums
    (subst (AreWeightsAdded c.args.sums.now c.add_moves.new.sums) is added) c.in_ok-add_others.ensures.added
