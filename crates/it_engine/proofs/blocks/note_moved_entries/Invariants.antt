use Rattle.std.proofs.Common.{◌≡◌, length}
use Rattle.it_engine.specs.Behind.{after_rows}
use Rattle.it_engine.proofs.InOrder.{AreNotedBelow}
use Rattle.it_engine.proofs.blocks.note_moved_entries.Given as goal

abbrev pub invariant-loop-k : goal.invariant-loop-k
invariant-loop-k l = record {
  same_length : length l.entries ≡ length l.block.rows.now;
  noted : AreNotedBelow l.column l.block.rows.now l.block.moved.now l.entries (after_rows l.block.order.now l.k);
}
