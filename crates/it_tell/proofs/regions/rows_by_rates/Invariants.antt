use Rattle.std.proofs.Common.{◌≡◌, map, take}
use Rattle.it_tell.specs.SortedRows.{rows_by_rates}
use Rattle.it_tell.proofs.regions.rows_by_rates.Given as goal

abbrev pub invariant-loop-row : goal.invariant-loop-row
invariant-loop-row l = map (λ r. r.now) l.sorted.items ≡ rows_by_rates l.variables (take l.row-index l.rows)
