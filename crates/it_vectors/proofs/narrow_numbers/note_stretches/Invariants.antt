use Rattle.std.proofs.Common.{length, ◌≤◌, ◌-◌}
use Rattle.it_vectors.specs.StretchesUpTo.{AreStretchesUpTo}
use Rattle.it_vectors.proofs.narrow_numbers.note_stretches.Given as goal

abbrev pub invariant-loop-k : goal.invariant-loop-k
invariant-loop-k l = record {
  within : l.k ≤ length l.row;
  noted : AreStretchesUpTo l.row l.starts.items l.k;
}

abbrev pub decreases-loop-k : goal.decreases-loop-k
decreases-loop-k l = length l.row - l.k
