use Rattle.std.proofs.Common.{◌≡◌, ℕ, ◌+◌, ◌<◌, length, slice_index_or}
use Rattle.it_tableau.proofs.start.artificials.Given as goal

abbrev pub invariant-loop-i : goal.invariant-loop-i
invariant-loop-i l = record {
  count : length l.basis.items ≡ l.i;
  value : (k : ℕ) → k < l.i → slice_index_or l.basis.items k 0 ≡ l.first + k;
}
