use Rattle.std.proofs.Common.{◌≡◌, ◌++◌, drop}
use Rattle.it_eliminate.proofs.copying.copied_rows.Given as goal

abbrev pub invariant-loop-row : goal.invariant-loop-row
invariant-loop-row l = l.own.items ++ drop l.row-index l.rows ≡ l.rows
