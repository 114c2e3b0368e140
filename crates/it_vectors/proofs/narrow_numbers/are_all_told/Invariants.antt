use Rattle.std.proofs.Common.{◌-◌, ◌<◌, ◌≤◌, ℕ, length}
use Rattle.it_space.specs.Sums.{number_at}
use Rattle.it_vectors.specs.Quotients.{IsTold}
use Rattle.it_vectors.proofs.narrow_numbers.are_all_told.Given as goal

abbrev pub invariant-loop-from : goal.invariant-loop-from
invariant-loop-from l = record {
  within : l.from ≤ length l.row;
  told : (j : ℕ) → j < l.from → IsTold l.by (number_at l.row j);
}

abbrev pub decreases-loop-from : goal.decreases-loop-from
decreases-loop-from l = length l.row - l.from
