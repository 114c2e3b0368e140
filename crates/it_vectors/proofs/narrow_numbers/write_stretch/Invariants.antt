use Rattle.std.proofs.Common.{◌≡◌, ℕ, ◌<◌, ◌≤◌, ◌+◌, length}
use Rattle.it_space.specs.Sums.{number_at}
use Rattle.it_vectors.proofs.narrow_numbers.write_stretch.Given as goal

abbrev pub invariant-loop-k : goal.invariant-loop-k
invariant-loop-k l = record {
  same_length : length l.row ≡ length l.initial.row;
  before : (k : ℕ) → k < l.from → number_at l.row k ≡ number_at l.initial.row k;
  done : (k : ℕ) → k < l.k → number_at l.row (l.from + k) ≡ number_at l.numbers k;
  rest : (k : ℕ) → l.from + l.k ≤ k → number_at l.row k ≡ number_at l.initial.row k;
}
