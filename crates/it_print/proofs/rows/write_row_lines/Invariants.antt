use Rattle.std.proofs.Common.{◌≡◌, ◌++◌, drop}
use Rattle.std.specs.List.{flat_map}
use Rattle.it_print.specs.Lines.{row_line}
use Rattle.it_print.proofs.rows.write_row_lines.Given as goal

abbrev pub invariant-loop-row : goal.invariant-loop-row
invariant-loop-row l = l.out.items ++ flat_map (row_line l.k l.names) (drop l.row-index l.rows) ≡ l.initial.out.items ++ flat_map (row_line l.k l.names) l.rows
