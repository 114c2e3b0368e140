use Rattle.std.proofs.Common.{length}
use Rattle.it_engine.specs.Behind.{after_rows, HasZeroRatio, IsFirstOf}
use Rattle.it_engine.proofs.leaving.first_moved_to_leave.Given as goal

abbrev pub invariant-loop-k : goal.invariant-loop-k
invariant-loop-k l = IsFirstOf l.block.basis.now (HasZeroRatio l.block.rows.now l.entries (length l.block.basis.now)) (after_rows l.block.order.now l.k) l.best
