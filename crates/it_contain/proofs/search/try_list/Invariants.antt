use Rattle.std.proofs.Common.{◌≡◌, ◌≤◌, map, drop}
use Rattle.it_contain.specs.Search.{pair_goal}
use Rattle.it_contain.specs.SearchSteps.{IsPast, AreOutcomes}
use Rattle.it_contain.proofs.search.try_list.Given as goal

abbrev pub invariant-loop-candidate : goal.invariant-loop-candidate
invariant-loop-candidate g l = record {
  within : l.count ≤ l.tries;
  passed : IsPast (pair_goal l.goal.pair.now l.goal.effort) l.first (drop l.candidate-index l.first) l.count;
  plans : map (λ b. (goal.Proposer-dyn g (b.vtable, b.value)).plan b.value) l.boxes.items
      ≡ map (λ b. (goal.Proposer-dyn g (b.vtable, b.value)).plan b.value) l.initial.boxes.items;
  pending : map (λ b. (goal.Proposer-dyn g (b.vtable, b.value)).pending b.value) l.boxes.items
      ≡ map (λ b. (goal.Proposer-dyn g (b.vtable, b.value)).pending b.value) l.initial.boxes.items;
  outcomes : AreOutcomes l.goal.pair.now.first l.goal.effort l.outcomes;
}
