use Rattle.std.proofs.Common.{◌≡◌, map, vec_len}
use Rattle.it_contain.proofs.boxes.tell_all.Given as goal

abbrev pub invariant-loop-i : goal.invariant-loop-i
invariant-loop-i g l = record {
  count : l.i-end ≡ vec_len l.boxes;
  plans : map (λ b. (goal.Proposer-dyn g (b.vtable, b.value)).plan b.value) l.boxes.items
      ≡ map (λ b. (goal.Proposer-dyn g (b.vtable, b.value)).plan b.value) l.initial.boxes.items;
  pending : map (λ b. (goal.Proposer-dyn g (b.vtable, b.value)).pending b.value) l.boxes.items
      ≡ map (λ b. (goal.Proposer-dyn g (b.vtable, b.value)).pending b.value) l.initial.boxes.items;
}
