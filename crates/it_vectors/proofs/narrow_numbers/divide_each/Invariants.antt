use Rattle.std.proofs.Common.{length, ◌≡◌, ℕ, ◌<◌, ◌≤◌, pos, ◌*ℤ◌}
use Rattle.it_space.specs.Sums.{number_at}
use Rattle.it_vectors.proofs.narrow_numbers.divide_each.Given as goal

abbrev pub invariant-loop-k : goal.invariant-loop-k
invariant-loop-k l = record {
  same_length : length l.row ≡ length l.initial.row;
  done : (k : ℕ) → k < l.k → number_at l.row k *ℤ pos l.shared.value ≡ number_at l.initial.row k;
  rest : (k : ℕ) → l.k ≤ k → number_at l.row k ≡ number_at l.initial.row k;
}
