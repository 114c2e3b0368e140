use Rattle.std.proofs.Common.{◌≡◌, ℕ, ◌<◌, take}
use Rattle.it_vectors.specs.Sizes.{AreAtMost}
use Rattle.it_engine.specs.Tables.{whole_row_at}
use Rattle.it_engine.proofs.engine.narrowed_rows.Given as goal

abbrev pub invariant-loop-k : goal.invariant-loop-k
invariant-loop-k l = record {
  same : l.narrow.items ≡ take l.k l.rows;
  small : (j : ℕ) → j < l.k → AreAtMost (whole_row_at l.rows j).numbers l.limit;
}
