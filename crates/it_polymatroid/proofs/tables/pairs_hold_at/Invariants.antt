use Rattle.std.proofs.Common.{ℕ, ◌≡◌, ◌<◌, ◌^◌}
use Rattle.it_polymatroid.specs.Tables.{value_at}
use Rattle.it_polymatroid.specs.TablePairs.{PairHolds}
use Rattle.it_polymatroid.proofs.tables.pairs_hold_at.Given as goal

abbrev pub invariant-loop-number : goal.invariant-loop-number
invariant-loop-number l = (l.number-end ≡ 2 ^ l.table.variables) × ((t : ℕ) → t < l.number → PairHolds (value_at l.table) l.set t)
