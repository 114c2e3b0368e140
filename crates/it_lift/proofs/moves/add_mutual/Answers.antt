use Rattle.std.proofs.Common.{rules, ◌≡◌, ℕ, ℤ, pos, List, ap, subst, ◌∙◌}
use Rattle.it_elemental.specs.Expansions.{members, mutual_expansion}
use Rattle.it_lift.specs.Fits.{WeightSumsFit}
use Rattle.it_lift.specs.Lifts.{each_weight}
use Rattle.it_space.specs.Sums.{number_at}
use Rattle.it_lift.specs.Sums.{for_each, AreWeightsAdded}
use Rattle.it_lift.proofs.SumSteps.{weights_by_number}
use Rattle.it_lift.proofs.moves.add_mutual.Goals as goal

pub returns-in_err-add_each-clause-wide : goal.returns-in_err-add_each-clause-wide
returns-in_err-add_each-clause-wide c =
    let is : for_each (pos c.args.amount) c.as_slice.result.now
    ≡ each_weight c.args.n (pos c.args.amount) (mutual_expansion (members c.args.n c.args.sets.left) (members c.args.n c.args.sets.right) c.args.sets.given) =
    ap (for_each (pos c.args.amount)) c.as_slice.ensures.value ∙ weights_by_number c.args.n (pos c.args.amount)
    c.in_ok-indexes.indexes.items _ c.in_ok-indexes.ensures.listed c.in_ok-indexes.ensures.order in
    let stops : ¬ (WeightSumsFit (number_at c.args.sums.now) (each_weight c.args.n (pos c.args.amount)
    (mutual_expansion (members c.args.n c.args.sets.left) (members c.args.n c.args.sets.right) c.args.sets.given))) =
    subst (λ (ms : List (ℕ × ℤ)). ¬ (WeightSumsFit (number_at c.args.sums.now) ms)) is c.in_err-add_each.ensures.wide in
    search (rules, stops)

pub returns-clause-added : goal.returns-clause-added
returns-clause-added c =
    let is : for_each (pos c.args.amount) c.as_slice.result.now
    ≡ each_weight c.args.n (pos c.args.amount) (mutual_expansion (members c.args.n c.args.sets.left) (members c.args.n c.args.sets.right) c.args.sets.given) =
    ap (for_each (pos c.args.amount)) c.as_slice.ensures.value ∙ weights_by_number c.args.n (pos c.args.amount)
    c.in_ok-indexes.indexes.items _ c.in_ok-indexes.ensures.listed c.in_ok-indexes.ensures.order in
    subst (AreWeightsAdded c.args.sums.now c.add_each.new.self) is c.in_ok-add_each.ensures.added
