use Rattle.std.proofs.Common.{◌≡◌, ◌<◌, ℕ, false, length}
use Rattle.it_engine.specs.Behind.{has_moved}
use Rattle.it_engine.proofs.blocks.note_none_moved.Given as goal

abbrev pub invariant-loop-i : goal.invariant-loop-i
invariant-loop-i l = record {
  same_length : length l.moved ≡ length l.initial.moved;
  none : (k : ℕ) → k < l.i → has_moved l.moved k ≡ false;
}
