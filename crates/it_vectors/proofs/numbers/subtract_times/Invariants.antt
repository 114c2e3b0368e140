use Rattle.std.proofs.Common.{length, ◌≡◌, ℕ, ◌<◌, ◌≤◌, ◌-◌, ◌+ℤ◌, ◌*ℤ◌, neg_ℤ}
use Rattle.it_space.specs.Sums.{number_at}
use Rattle.it_vectors.proofs.numbers.subtract_times.Given as goal

abbrev pub invariant-loop-k : goal.invariant-loop-k
invariant-loop-k l = record {
  same_length : length l.row ≡ length l.initial.row;
  within : l.k ≤ length l.row;
  done : (k : ℕ) → k < l.k → number_at l.row k ≡ number_at l.initial.row k +ℤ neg_ℤ (number_at l.by k *ℤ l.b);
  rest : (k : ℕ) → l.k ≤ k → number_at l.row k ≡ number_at l.initial.row k;
}

abbrev pub decreases-loop-k : goal.decreases-loop-k
decreases-loop-k l = length l.row - l.k
