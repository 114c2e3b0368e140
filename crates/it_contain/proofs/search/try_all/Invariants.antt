use Rattle.std.proofs.Common.{◌≡◌, ◌≤◌, ◌++◌, map, take, drop, vec_len}
use Rattle.it_contain.specs.Search.{pair_goal, IsOpen}
use Rattle.it_contain.specs.Shapes.{shape_of}
use Rattle.it_contain.specs.SearchSteps.{AreOutcomes, joined_lists, lists_of}
use Rattle.it_contain.proofs.search.try_all.Given as goal

abbrev pub invariant-loop-i : goal.invariant-loop-i
invariant-loop-i g l = record {
  end : l.i-end ≡ vec_len l.boxes;
  within : l.count ≤ l.tries;
  open_so_far : IsOpen (pair_goal l.goal.pair.now l.goal.effort) l.tries
      (l.first ++ joined_lists (take l.i (lists_of (shape_of l.goal.pair.now) (map (λ b. (goal.Proposer-dyn g (b.vtable, b.value)).plan b.value)
      l.fn.boxes.items)))) l.count;
  plans : map (λ b. (goal.Proposer-dyn g (b.vtable, b.value)).plan b.value) l.boxes.items
      ≡ map (λ b. (goal.Proposer-dyn g (b.vtable, b.value)).plan b.value) l.fn.boxes.items;
  later : drop l.i (map (λ b. (goal.Proposer-dyn g (b.vtable, b.value)).pending b.value) l.boxes.items)
      ≡ drop l.i (lists_of (shape_of l.goal.pair.now) (map (λ b. (goal.Proposer-dyn g (b.vtable, b.value)).plan b.value) l.fn.boxes.items));
  outcomes : AreOutcomes l.goal.pair.now.first l.goal.effort l.outcomes;
}
