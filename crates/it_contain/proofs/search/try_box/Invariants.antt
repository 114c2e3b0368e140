use Rattle.std.proofs.Common.{◌≡◌, ◌+◌, ◌<◌, [], map, drop, get_or, vec_len}
use Rattle.it_contain.specs.Search.{pair_goal}
use Rattle.it_contain.specs.SearchSteps.{IsPast, AreOutcomes}
use Rattle.it_contain.proofs.search.try_box.Given as goal

abbrev pub invariant-loop-count : goal.invariant-loop-count
invariant-loop-count g l = record {
  within : l.i < vec_len l.boxes;
  passed : IsPast (pair_goal l.goal.pair.now l.goal.effort) (get_or
      (map (λ b. (goal.Proposer-dyn g (b.vtable, b.value)).pending b.value) l.initial.boxes.items) l.i [])
      (get_or (map (λ b. (goal.Proposer-dyn g (b.vtable, b.value)).pending b.value) l.boxes.items) l.i []) l.count;
  plans : map (λ b. (goal.Proposer-dyn g (b.vtable, b.value)).plan b.value) l.boxes.items
      ≡ map (λ b. (goal.Proposer-dyn g (b.vtable, b.value)).plan b.value) l.initial.boxes.items;
  later : drop (l.i + 1) (map (λ b. (goal.Proposer-dyn g (b.vtable, b.value)).pending b.value) l.boxes.items)
      ≡ drop (l.i + 1) (map (λ b. (goal.Proposer-dyn g (b.vtable, b.value)).pending b.value) l.initial.boxes.items);
  outcomes : AreOutcomes l.goal.pair.now.first l.goal.effort l.outcomes;
}
