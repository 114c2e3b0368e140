use Rattle.std.proofs.Common.{◌≡◌, ◌<◌, ◌≤◌, ◌+◌, ◌*◌, ◌^◌, drop, length, map}
use Rattle.it_codes.specs.Codes.{functions_of, zero_set}
use Rattle.it_codes.proofs.counting.zero_set.Given as goal

abbrev pub invariant-loop-variable : goal.invariant-loop-variable
invariant-loop-variable l = (l.variable-index ≤ length l.variables) × (l.place ≡ 2 ^ l.variable-index) × (l.set < l.place)
    × (l.set + l.place * zero_set l.size l.message (drop l.variable-index (map functions_of l.variables))
    ≡ zero_set l.size l.message (map functions_of l.variables))
