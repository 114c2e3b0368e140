use Rattle.std.proofs.Common.{length, ◌≡◌, ℕ, ◌<◌, ◌≤◌, unsigned_abs}
use Rattle.it_space.specs.Sums.{number_at}
use Rattle.it_whole.proofs.room.write_back.Given as goal

abbrev pub invariant-loop-k : goal.invariant-loop-k
invariant-loop-k l = record {
  same_length : length l.row ≡ length l.initial.row;
  done : (k : ℕ) → k < l.k → number_at l.row k ≡ number_at l.room k;
  small : (k : ℕ) → k < l.k → unsigned_abs (number_at l.row k) ≤ l.limit;
}
