-- The feasibility problem of sparse rows: each coordinate is a row of the table, and each row of the list is a column.
use Rattle.std.specs.Prelude.{ℕ, ◌<◌, List, [], length, slice_index_or}
use Rattle.it_rational.specs.Rational.{Rational, integer}
use Rattle.it_space.specs.Rows.{Terms, coefficient}
use Rattle.it_tableau.specs.SimplexTables.{FeasibilityProblem}

-- each coordinate is below all later ones
abbrev pub IsAscending : List ℕ → Type 0
IsAscending coordinates = (i k : ℕ) → i < k → k < length coordinates → slice_index_or coordinates i 0 < slice_index_or coordinates k 0

-- the coefficients of the rows at the coordinates, as rational numbers
abbrev pub feasibility_problem : List ℕ → List Terms → Terms → FeasibilityProblem Rational
feasibility_problem coordinates columns target = record {
  column = λ j k. integer (coefficient (slice_index_or columns j []) (slice_index_or coordinates k 0));
  target = λ k. integer (coefficient target (slice_index_or coordinates k 0));
}
