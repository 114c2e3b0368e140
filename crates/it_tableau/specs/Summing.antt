-- No public clause cites this module: the sums of the columns, row by row.
use Rattle.std.specs.Prelude.{◌≡◌, ◌≢◌, ℕ, ◌<◌, List, length}
use Rattle.it_rational.specs.Rational.{Rational, plus}
use Rattle.it_fraction.specs.Fits.{IsNarrow, SumFits}
use Rattle.it_tableau.specs.Entries.{entry_at}
use Rattle.it_tableau.specs.Rows.{column_sum}
use Rattle.it_tableau.specs.SparseRows.{RowTerms, entry_in}

-- all numbers are within the limit
abbrev pub AreNarrow : List Rational → Type 0
AreNarrow sums = (j : ℕ) → j < length sums → IsNarrow (entry_at sums j)

-- number is added to the sum of column c, and the other sums are unchanged
pub record IsNumberAdded (old : List Rational) (c : ℕ) (number : Rational) (new : List Rational) : Type 0 where
  pub same_length : length new ≡ length old
  pub own : entry_at new c ≡ plus number (entry_at old c)
  pub narrow : IsNarrow (entry_at new c)
  pub others : (j : ℕ) → j ≢ c → entry_at new j ≡ entry_at old j

-- each number of a row can be added to the sum of its column within the limit
abbrev pub SumsFit : RowTerms → List Rational → Type 0
SumsFit terms sums = (j : ℕ) → j < length sums → SumFits (entry_in terms j) (entry_at sums j)

-- new are the sums old with the numbers of a row added
pub record IsRowAdded (terms : RowTerms) (old new : List Rational) : Type 0 where
  pub same_length : length new ≡ length old
  pub entries : (j : ℕ) → j < length old → entry_at new j ≡ plus (entry_in terms j) (entry_at old j)

-- sums are those of the first k rows in each of width columns
pub record AreColumnSums (rows : List (List Rational)) (width k : ℕ) (sums : List Rational) : Type 0 where
  pub length_is : length sums ≡ width
  pub entries : (j : ℕ) → j < width → entry_at sums j ≡ column_sum rows j k
