use Rattle.std.proofs.Common.{length, ◌≡◌, ℕ, ◌<◌, ◌≤◌, ◌+ℤ◌, ◌*ℤ◌, neg_ℤ, unsigned_abs}
use Rattle.it_space.specs.Sums.{number_at}
use Rattle.it_vectors.proofs.numbers.combine_tested.Given as goal

abbrev pub invariant-loop-k : goal.invariant-loop-k
invariant-loop-k l = record {
  same_length : length l.row ≡ length l.initial.row;
  done : (k : ℕ) → k < l.k → number_at l.row k ≡ number_at l.initial.row k *ℤ l.a +ℤ neg_ℤ (number_at l.by k *ℤ l.b);
  small : (k : ℕ) → k < l.k → unsigned_abs (number_at l.row k) ≤ l.limit;
  rest : (k : ℕ) → l.k ≤ k → number_at l.row k ≡ number_at l.initial.row k;
}
