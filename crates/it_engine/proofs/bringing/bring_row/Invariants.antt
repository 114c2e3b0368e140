use Rattle.std.proofs.Common.{◌≡◌, length}
use Rattle.it_whole.specs.WholeRows.{IsUsable}
use Rattle.it_engine.specs.Behind.{after_rows}
use Rattle.it_engine.proofs.BehindRuns.{IsTakenOff}
use Rattle.it_engine.proofs.bringing.bring_row.Given as goal

abbrev pub invariant-loop-k : goal.invariant-loop-k
invariant-loop-k l = record {
  room : length l.room ≡ length l.block.rows.now;
  usable : IsUsable (length l.block.rows.now) l.run.limit l.row;
  taken : IsTakenOff l.run.columns.now l.run.limit l.block.rows.now l.block.basis.now l.block.moved.now l.initial.row (after_rows l.block.order.now l.k) l.row;
}
