use Rattle.std.proofs.Common.{◌≡◌, length}
use Rattle.it_engine.specs.Behind.{after_rows}
use Rattle.it_engine.proofs.Pivoting.{IsPivotUnderWay}
use Rattle.it_engine.proofs.pivots.pivot_moved.Given as goal

abbrev pub invariant-loop-k : goal.invariant-loop-k
invariant-loop-k l = record {
  under_way : IsPivotUnderWay l.run.limit l.fn.rows l.entries l.r l.leaving.row.now l.p l.rows (after_rows l.order l.k);
  room : length l.room ≡ length l.fn.rows;
}
