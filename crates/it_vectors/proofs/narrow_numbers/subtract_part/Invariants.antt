use Rattle.std.proofs.Common.{length, ◌≡◌, ℕ, ◌<◌, ◌≤◌, ◌+ℤ◌, ◌*ℤ◌, neg_ℤ}
use Rattle.it_space.specs.Sums.{number_at}
use Rattle.it_vectors.proofs.narrow_numbers.subtract_part.Given as goal

abbrev pub invariant-loop-k : goal.invariant-loop-k
invariant-loop-k l = record {
  same_length : length l.row ≡ length l.initial.row;
  before : (k : ℕ) → k < l.from → number_at l.row k ≡ number_at l.initial.row k;
  done : (k : ℕ) → l.from ≤ k → k < l.k → number_at l.row k ≡ number_at l.initial.row k +ℤ neg_ℤ (number_at l.by k *ℤ l.b);
  rest : (k : ℕ) → l.k ≤ k → number_at l.row k ≡ number_at l.initial.row k;
}
