use Rattle.std.proofs.Common.{◌≡◌, ◌+◌, ◌-◌, ◌≤◌, ◌++◌, drop, length, take}
use Rattle.it_redundant.specs.ReductionSteps.{numbered}
use Rattle.it_redundant.proofs.others.number_from.Given as goal

abbrev pub invariant-loop-i : goal.invariant-loop-i
invariant-loop-i l = (l.i-end ≡ length l.constraints.items) × (length l.constraints.items ≡ length l.initial.constraints.items) × (l.place ≤ l.i)
    × (take l.i l.constraints.items ++ numbered (l.line + (l.i - l.place)) (drop l.i l.constraints.items)
    ≡ take l.place l.initial.constraints.items ++ numbered l.line (drop l.place l.initial.constraints.items))
