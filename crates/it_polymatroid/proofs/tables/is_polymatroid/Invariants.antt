use Rattle.std.proofs.Common.{ℕ, ◌≡◌, ◌<◌, ◌^◌}
use Rattle.it_polymatroid.specs.Tables.{value_at}
use Rattle.it_polymatroid.specs.TablePairs.{PairsHoldAt}
use Rattle.it_polymatroid.proofs.tables.is_polymatroid.Given as goal

abbrev pub invariant-loop-number : goal.invariant-loop-number
invariant-loop-number l = (l.number-end ≡ 2 ^ l.table.variables) × ((s : ℕ) → s < l.number → PairsHoldAt l.table.variables (value_at l.table) s)
