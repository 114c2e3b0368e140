use Rattle.std.proofs.Common.{length, ◌≡◌, ℕ, ◌<◌, ◌≤◌, ◌+ℤ◌, ◌*ℤ◌, neg_ℤ, slice_index_or}
use Rattle.it_space.specs.Sums.{number_at}
use Rattle.it_vectors.proofs.narrow_numbers.subtract_stretches.Given as goal

abbrev pub invariant-loop-j : goal.invariant-loop-j
invariant-loop-j l = record {
  same_length : length l.row ≡ length l.initial.row;
  done : (k : ℕ) → k < slice_index_or l.starts l.j 0 → number_at l.row k ≡ number_at l.initial.row k +ℤ neg_ℤ (number_at l.by k *ℤ l.b);
  rest : (k : ℕ) → slice_index_or l.starts l.j 0 ≤ k → number_at l.row k ≡ number_at l.initial.row k;
}
