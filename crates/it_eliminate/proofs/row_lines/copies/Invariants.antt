use Rattle.std.proofs.Common.{◌≡◌, ◌++◌, drop}
use Rattle.it_eliminate.proofs.row_lines.copies.Given as goal

abbrev pub invariant-loop-constraint : goal.invariant-loop-constraint
invariant-loop-constraint l = l.copies.items ++ drop l.constraint-index l.constraints ≡ l.constraints
