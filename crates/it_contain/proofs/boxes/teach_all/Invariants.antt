use Rattle.std.proofs.Common.{◌≡◌, map, take, drop, vec_len}
use Rattle.it_contain.specs.Proposals.{plan_after}
use Rattle.it_contain.proofs.boxes.teach_all.Given as goal

abbrev pub invariant-loop-i : goal.invariant-loop-i
invariant-loop-i g l = record {
  count : l.i-end ≡ vec_len l.boxes;
  initial : l.i-end ≡ vec_len l.initial.boxes;
  rest : drop l.i (map (λ b. (goal.Proposer-dyn g (b.vtable, b.value)).plan b.value) l.boxes.items)
      ≡ drop l.i (map (λ b. (goal.Proposer-dyn g (b.vtable, b.value)).plan b.value) l.initial.boxes.items);
  taught : take l.i (map (λ b. (goal.Proposer-dyn g (b.vtable, b.value)).plan b.value) l.boxes.items)
      ≡ take l.i (map (plan_after l.candidate) (map (λ b. (goal.Proposer-dyn g (b.vtable, b.value)).plan b.value) l.initial.boxes.items));
}
