use Rattle.std.proofs.Common.{length, ◌≡◌, ℕ, ◌+◌, ◌≤◌, slice_index_or}
use Rattle.it_vectors.specs.Places.{IsNextPlace}
use Rattle.it_vectors.proofs.numbers.note_places.Given as goal

abbrev pub invariant-loop-k : goal.invariant-loop-k
invariant-loop-k l = record {
  same_length : length l.next ≡ length l.row + 1;
  within : l.k ≤ length l.row;
  noted : (k : ℕ) → l.k ≤ k → k ≤ length l.row → IsNextPlace l.row k (slice_index_or l.next k 0);
}

abbrev pub decreases-loop-k : goal.decreases-loop-k
decreases-loop-k l = l.k
