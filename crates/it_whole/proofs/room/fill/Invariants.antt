use Rattle.std.proofs.Common.{length, ◌≡◌, ℕ, ◌<◌, ◌+ℤ◌, ◌*ℤ◌, neg_ℤ}
use Rattle.it_space.specs.Sums.{number_at}
use Rattle.it_whole.proofs.room.fill.Given as goal

abbrev pub invariant-loop-k : goal.invariant-loop-k
invariant-loop-k l = record {
  same_length : length l.room ≡ length l.initial.room;
  done : (k : ℕ) → k < l.k → number_at l.room k ≡ number_at l.row k *ℤ l.a +ℤ neg_ℤ (number_at l.by k *ℤ l.b);
}
