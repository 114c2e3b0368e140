use Rattle.std.proofs.Common.{◌≡◌, ◌++◌, drop}
use Rattle.it_bounds.specs.LineSteps.{row_lines}
use Rattle.it_bounds.proofs.lines.write_rows.Given as goal

abbrev pub invariant-loop-i : goal.invariant-loop-i
invariant-loop-i l = l.out.items ++ row_lines l.posed (drop l.i l.rows) (drop l.i l.proofs)
    ≡ l.initial.out.items ++ row_lines l.posed l.rows l.proofs
