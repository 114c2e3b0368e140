-- The numbers that the start and a pivot form: an operation is wide where one of them passes the limit. Nothing is said of the order
-- of the operations.
use Rattle.std.specs.Prelude.{◌≢◌, ℕ, ◌+◌, ◌<◌, ◌≤◌, pos}
use Rattle.it_rational.specs.Rational.{Rational, integer, plus, times, inverse}
use Rattle.it_fraction.specs.Fits.{IsNarrow, DifferenceFits}
use Rattle.it_tableau.specs.Operations.{rationals}
use Rattle.it_tableau.specs.Sums.{sum_by}
use Rattle.it_tableau.specs.SimplexTables.{SimplexTable, FeasibilityProblem, start_row}

-- each partial sum of the cost row, in the order of the rows, is within the limit
abbrev pub StartFits : ℕ → ℕ → FeasibilityProblem Rational → Type 0
StartFits m n p = (k j : ℕ) → k ≤ m → j < n + m + 1 → IsNarrow (sum_by (integer (pos 0)) plus k (λ i. start_row rationals m n p i j))

-- x less y times q is formed within the limit: the product, and then the difference
pub record EntryFits (x y q : Rational) : Type 0 where
  pub product : IsNarrow (times y q)
  pub difference : DifferenceFits x (times y q)

-- the numbers of the pivot at row r and column c are within the limit: for each other row, the cost row included, its quotient, and
-- its new entries and right side; and the quotients that row r becomes
pub record PivotFits (m n : ℕ) (t : SimplexTable Rational) (r c : ℕ) : Type 0 where
  pub quotients : (i : ℕ) → i < m + 1 → i ≢ r → IsNarrow (times (t.entry i c) (inverse (t.entry r c)))
  pub entries : (i j : ℕ) → i < m + 1 → i ≢ r → j < n + m + 1 → EntryFits (t.entry i j) (t.entry r j) (times (t.entry i c) (inverse (t.entry r c)))
  pub own : (j : ℕ) → j < n + m + 1 → IsNarrow (times (t.entry r j) (inverse (t.entry r c)))
