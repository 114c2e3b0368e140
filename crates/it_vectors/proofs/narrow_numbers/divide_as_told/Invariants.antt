use Rattle.std.proofs.Common.{length, ◌≡◌, ℕ, ◌<◌, ◌≤◌, ◌*ℤ◌}
use Rattle.it_space.specs.Sums.{number_at}
use Rattle.it_vectors.proofs.narrow_numbers.divide_as_told.Given as goal

abbrev pub invariant-loop-j : goal.invariant-loop-j
invariant-loop-j l = record {
  same_length : length l.row ≡ length l.initial.row;
  done : (j : ℕ) → j < l.j → number_at l.row j *ℤ l.by.value ≡ number_at l.initial.row j;
  rest : (j : ℕ) → l.j ≤ j → number_at l.row j ≡ number_at l.initial.row j;
}
