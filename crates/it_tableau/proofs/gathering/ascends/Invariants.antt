use Rattle.std.proofs.Common.{◌≤◌, ◌<◌, ℕ, slice_index_or}
use Rattle.it_tableau.proofs.gathering.ascends.Given as goal

abbrev pub invariant-loop-k : goal.invariant-loop-k
invariant-loop-k l = record {
  from : 1 ≤ l.k;
  below : (i k : ℕ) → i < k → k < l.k → slice_index_or l.coordinates i 0 < slice_index_or l.coordinates k 0;
}
