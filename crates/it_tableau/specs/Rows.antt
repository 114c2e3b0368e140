-- No public clause cites this module: rows of rational numbers as lists, and a pivot on them.
use Rattle.std.specs.Prelude.{◌≡◌, ◌≢◌, ℕ, zero, suc, ◌<◌, List, [], ◌∷◌, ◌++◌, length, pos}
use Rattle.it_rational.specs.Rational.{Rational, integer, plus, minus, times, inverse}
use Rattle.it_fraction.specs.Fits.{IsNarrow, SumFits}
use Rattle.it_tableau.specs.Sums.{sum_by}
use Rattle.it_tableau.specs.Entries.{entry_at, row_at}
use Rattle.it_tableau.specs.SparseRows.{RowTerms, entry_in}
use Rattle.it_tableau.specs.Fits.{EntryFits}

-- as many numbers as the last argument says, from column j on
abbrev pub entries_from : RowTerms → ℕ → ℕ → List Rational
entries_from terms j zero = []
entries_from terms j (suc left) = entry_in terms j ∷ entries_from terms (suc j) left

-- all numbers of a row of width columns, and the right side after them
unfoldable pub dense_row : ℕ → RowTerms → Rational → List Rational
dense_row width terms right = entries_from terms 0 width ++ right ∷ []

-- q is a whole number within the limit
pub record IsWholeNumber (q : Rational) : Type 0 where
  pub whole_is : q.den ≡ 1
  pub narrow : IsNarrow q

-- row has n numbers, which are the first ones of f
pub record ListsValues (f : ℕ → Rational) (n : ℕ) (row : List Rational) : Type 0 where
  pub length_is : length row ≡ n
  pub entries : (j : ℕ) → j < n → entry_at row j ≡ f j

-- the sum of the first k numbers of column j
abbrev pub column_sum : List (List Rational) → ℕ → ℕ → Rational
column_sum rows j k = sum_by (integer (pos 0)) plus k (λ i. entry_at (row_at rows i) j)

-- each addition of the sum of column j is within the limit
abbrev pub ColumnFits : List (List Rational) → ℕ → Type 0
ColumnFits rows j = (k : ℕ) → k < length rows → SumFits (entry_at (row_at rows k) j) (column_sum rows j k)

-- each addition of the sums of all columns is within the limit
abbrev pub ColumnsFit : List (List Rational) → ℕ → Type 0
ColumnsFit rows width = (j : ℕ) → j < width → ColumnFits rows j

-- each entry less q times that of the other row is formed within the limit
abbrev pub RowFits : List Rational → List Rational → Rational → Type 0
RowFits row by q = (k : ℕ) → k < length row → EntryFits (entry_at row k) (entry_at by k) q

-- new is old less q times by, entry by entry
pub record IsReduced (old by : List Rational) (q : Rational) (new : List Rational) : Type 0 where
  pub same_length : length new ≡ length old
  pub entries : (k : ℕ) → k < length old → entry_at new k ≡ plus (entry_at old k) (minus (times (entry_at by k) q))

-- each entry divided by p is within the limit
abbrev pub RowQuotientsFit : List Rational → Rational → Type 0
RowQuotientsFit row p = (k : ℕ) → k < length row → IsNarrow (times (entry_at row k) (inverse p))

-- new is old divided by p, entry by entry
pub record IsDivided (old : List Rational) (p : Rational) (new : List Rational) : Type 0 where
  pub same_length : length new ≡ length old
  pub entries : (k : ℕ) → k < length old → entry_at new k ≡ times (entry_at old k) (inverse p)

-- the quotient of a row in a pivot and the row's new entries are within the limit
pub record RowStepFits (row by : List Rational) (c : ℕ) (p : Rational) : Type 0 where
  pub quotient : IsNarrow (times (entry_at row c) (inverse p))
  pub row_fits : RowFits row by (times (entry_at row c) (inverse p))

-- all rows have length n
abbrev pub AreEven : List (List Rational) → ℕ → Type 0
AreEven rows n = (i : ℕ) → i < length rows → length (row_at rows i) ≡ n

-- the numbers of a pivot at row r and column c are within the limit
pub record RowsPivotFits (rows : List (List Rational)) (r c : ℕ) : Type 0 where
  pub others : (i : ℕ) → i < length rows → i ≢ r → RowStepFits (row_at rows i) (row_at rows r) c (entry_at (row_at rows r) c)
  pub own : RowQuotientsFit (row_at rows r) (entry_at (row_at rows r) c)

-- new are the rows after a pivot at row r and column c
pub record ArePivoted (old : List (List Rational)) (r c : ℕ) (new : List (List Rational)) : Type 0 where
  pub same_length : length new ≡ length old
  pub others : (i : ℕ) → i < length old → i ≢ r
      → IsReduced (row_at old i) (row_at old r) (times (entry_at (row_at old i) c) (inverse (entry_at (row_at old r) c))) (row_at new i)
  pub own : IsDivided (row_at old r) (entry_at (row_at old r) c) (row_at new r)
