use Rattle.std.proofs.Common.{◌≡◌, length}
use Rattle.it_engine.proofs.Pivoting.{IsPivotUnderWay}
use Rattle.it_engine.proofs.pivots.pivot.Given as goal

abbrev pub invariant-loop-i : goal.invariant-loop-i
invariant-loop-i l = record {
  under_way : IsPivotUnderWay l.run.limit l.fn.rows l.entries l.r l.leaving.row.now l.p l.rows l.i;
  room : length l.room ≡ length l.fn.rows;
}
