-- No public clause cites this module: tables of whole numbers over one denominator a row.
use Rattle.std.specs.Prelude.{◌≡◌, ℕ, ◌+◌, ◌<◌, ◌≤◌, ℤ, List, [], length, slice_index_or, All}
use Rattle.it_rational.specs.Rational.{Rational, times, IsRatio}
use Rattle.it_rational.proofs.RationalLaws.{ring_ℚ}
use Rattle.it_space.specs.Rows.{Terms, row_mass}
use Rattle.it_tableau.specs.Operations.{rationals}
use Rattle.it_tableau.specs.FieldOperations.{sum_to}
use Rattle.it_tableau.specs.SimplexTables.{SimplexTable, FeasibilityProblem, start_row}
use Rattle.it_run.specs.RowValues.{rational_value}
use Rattle.it_vectors.specs.Sizes.{AreAtMost, IsShort}
use Rattle.it_whole.specs.WholeRows.{IsRow, WholeRowView}
use Rattle.it_number.specs.Limit.{signed_limit}

-- each entry of the table, the right sides and the cost row included, is a whole number over the denominator of its row, and all
-- these numbers are short
pub record IsTableOver (m n : ℕ) (t : SimplexTable Rational) (number : ℕ → ℕ → ℤ) (denominator : ℕ → ℕ) : Type 0 where
  pub some : (i : ℕ) → i ≤ m → 0 < denominator i
  pub low : (i : ℕ) → i ≤ m → denominator i < signed_limit
  pub named : (i j : ℕ) → i ≤ m → j ≤ n + m → IsRatio (t.entry i j) (number i j) (denominator i)
  pub short : (i j : ℕ) → i ≤ m → j ≤ n + m → IsShort (number i j)

-- row i; past the end a row without numbers
abbrev pub whole_row_at : List WholeRowView → ℕ → WholeRowView
whole_row_at rows i = slice_index_or rows i record { numbers = []; denominator = 1 }

-- no number of any row is greater in absolute value than most
abbrev pub AreAllAtMost : ℕ → List WholeRowView → Type 0
AreAllAtMost most rows = (i : ℕ) → i < length rows → AreAtMost (whole_row_at rows i).numbers most

-- terms are those of a column of the start whose entries are f
pub record IsStartColumn (m norm : ℕ) (f : ℕ → Rational) (terms : Terms) : Type 0 where
  pub value_is : (g : ℕ → Rational) → sum_to ring_ℚ m (λ k. times (g k) (f k)) ≡ rational_value terms g
  pub within : All (λ t. t.0 < m) terms
  pub bounded : row_mass terms ≤ norm

-- the columns of the start but the artificial ones, none heavier than the norm
pub record AreStartColumns (m n norm : ℕ) (p : FeasibilityProblem Rational) (columns : List Terms) : Type 0 where
  pub count : length columns ≡ n
  pub column : (j : ℕ) → j < n → IsStartColumn m norm (λ k. start_row rationals m n p k j) (slice_index_or columns j [])

-- rows and basis are the parts of t that are kept: of each row its entries at the artificial columns and its right side
pub record ShowsTable (m n limit : ℕ) (t : SimplexTable Rational) (rows : List WholeRowView) (basis : List ℕ) : Type 0 where
  pub rows_are : length rows ≡ m + 1
  pub basis_are : length basis ≡ m
  pub row : (i : ℕ) → i < m + 1 → IsRow (m + 1) limit (λ k. t.entry i (n + k)) (whole_row_at rows i).numbers (whole_row_at rows i).denominator
  pub basis_is : (i : ℕ) → i < m → t.basis i ≡ slice_index_or basis i 0
