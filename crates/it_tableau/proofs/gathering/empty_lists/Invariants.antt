use Rattle.std.proofs.Common.{◌≡◌, ◌<◌, ℕ, [], length, slice_index_or}
use Rattle.it_tableau.proofs.gathering.empty_lists.Given as goal

abbrev pub invariant-loop : goal.invariant-loop
invariant-loop l = record {
  some : length l.lists.items ≡ l.counter;
  empty : (k : ℕ) → k < l.counter → slice_index_or l.lists.items k [] ≡ [];
}
