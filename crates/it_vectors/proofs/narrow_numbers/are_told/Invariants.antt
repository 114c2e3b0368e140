use Rattle.std.proofs.Common.{ℕ, ◌<◌, ◌≤◌}
use Rattle.std.specs.Bool.{OnTrue}
use Rattle.it_space.specs.Sums.{number_at}
use Rattle.it_vectors.specs.Quotients.{IsTold}
use Rattle.it_vectors.proofs.narrow_numbers.are_told.Given as goal

abbrev pub invariant-loop-j : goal.invariant-loop-j
invariant-loop-j l = OnTrue l.all ((j : ℕ) → l.from ≤ j → j < l.j → IsTold l.by (number_at l.row j))
