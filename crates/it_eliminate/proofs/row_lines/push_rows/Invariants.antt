use Rattle.std.proofs.Common.{◌≡◌, ◌+◌, ◌++◌, drop}
use Rattle.it_eliminate.specs.RowLines.{row_constraints}
use Rattle.it_eliminate.proofs.row_lines.push_rows.Given as goal

abbrev pub invariant-loop-i : goal.invariant-loop-i
invariant-loop-i l = l.constraints.items ++ row_constraints (l.i + 1) (drop l.i l.rows) ≡ l.initial.constraints.items ++ row_constraints 1 l.rows
