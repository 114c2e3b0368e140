-- No public clause cites this module: the choice of column and row by whole numbers.
use Rattle.std.specs.Prelude.{◌≡◌, ◌<◌, ℕ, zero, suc, Bool, true, cond, ltb, ◌&&◌, not, Option, Some, None, ℤ, ◌+ℤ◌, ◌*ℤ◌, neg_ℤ, List, [], length, slice_index_or}
use Rattle.it_rational.specs.Rational.{sign_least}
use Rattle.it_space.specs.Rows.{Terms, value}
use Rattle.it_run.specs.Choice.{first_false}
use Rattle.it_space.specs.Sums.{number_at}
use Rattle.it_engine.specs.Tables.{whole_row_at}
use Rattle.it_whole.specs.WholeRows.{WholeRowView}

-- whether z is above 0
abbrev pub is_above_zero : ℤ → Bool
is_above_zero z = not (sign_least (neg_ℤ z))

-- the first column whose cost is below 0
abbrev pub first_negative_cost : List Terms → List ℤ → ℕ
first_negative_cost columns cost = first_false (λ j. sign_least (value (slice_index_or columns j []) (number_at cost))) 0 (length columns)

-- left is below right, or equal to it with d below f
abbrev pub is_earlier : ℤ → ℤ → ℕ → ℕ → Bool
is_earlier left right d f = cond (sign_least (left +ℤ neg_ℤ right)) (sign_least (right +ℤ neg_ℤ left) && ltb d f) true

-- the ratio b / x with basic column d comes before e / y with basic column f, where x and y are above 0
abbrev pub comes_first : ℤ → ℤ → ℕ → ℤ → ℤ → ℕ → Bool
comes_first b x d e y f = is_earlier (b *ℤ y) (e *ℤ x) d f

module _ (entry right : ℕ → ℤ) (basis : ℕ → ℕ) where
  -- the best row so far, after row i
  abbrev pub best_after_row : ℕ → Option ℕ → Option ℕ
  best_after_row i None = cond (is_above_zero (entry i)) (Some i) None
  best_after_row i (Some k) = cond (is_above_zero (entry i)) (cond (comes_first (right i) (entry i) (basis i) (right k) (entry k) (basis k)) (Some i) (Some k)) (Some k)

  -- the best of the rows whose numbers are below the argument
  abbrev pub best_row_below : ℕ → Option ℕ
  best_row_below zero = None
  best_row_below (suc i) = best_after_row i (best_row_below i)

-- the entry of row i at a column, as a numerator over the row's denominator
abbrev pub entry_of : Terms → List WholeRowView → ℕ → ℤ
entry_of terms rows i = value terms (number_at (whole_row_at rows i).numbers)

-- entries are those of all rows at the column of terms
pub record AreEntries (terms : Terms) (rows : List WholeRowView) (entries : List ℤ) : Type 0 where
  pub length_is : length entries ≡ length rows
  pub each : (i : ℕ) → i < length rows → number_at entries i ≡ entry_of terms rows i

-- the right side of row i, which is at place m
abbrev pub right_side_of : ℕ → List WholeRowView → ℕ → ℤ
right_side_of m rows i = number_at (whole_row_at rows i).numbers m

-- the basic column of row i
abbrev pub basic_column_at : List ℕ → ℕ → ℕ
basic_column_at basis i = slice_index_or basis i 0

-- the best of the rows below i for the entering column of terms
abbrev pub best_row : Terms → List WholeRowView → List ℕ → ℕ → Option ℕ
best_row terms rows basis i = best_row_below (entry_of terms rows) (right_side_of (length basis) rows) (basic_column_at basis) i
