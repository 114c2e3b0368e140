-- No public clause cites this module: the start of the engine, read off the rows of a question.
use Rattle.std.specs.Prelude.{◌≡◌, ◌≢◌, ◌⊎◌, ℕ, zero, suc, ◌+◌, ◌<◌, ◌≤◌, ◌++◌, ◌∷◌, Bool, ℤ, neg_ℤ, cond, unsigned_abs, List, [], length, slice_index_or, All}
use Rattle.it_rational.specs.Rational.{Rational, is_at_least_zero, times, integer}
use Rattle.it_rational.proofs.RationalLaws.{ring_ℚ}
use Rattle.it_space.specs.Rows.{Terms, coefficient, row_mass}
use Rattle.it_tableau.specs.TableauViews.{start_of}
use Rattle.it_tableau.specs.FieldOperations.{sum_to}
use Rattle.it_run.specs.RowValues.{rational_value}
use Rattle.it_space.specs.Sums.{number_at}
use Rattle.it_engine.specs.Tables.{whole_row_at}
use Rattle.it_whole.specs.WholeRows.{WholeRowView}
use Rattle.it_number.specs.Limit.{signed_limit}

-- whether row k keeps its sign: the target's coefficient isn't below 0
abbrev pub keeps_sign : List ℕ → Terms → ℕ → Bool
keeps_sign coordinates target k = is_at_least_zero (integer (coefficient target (slice_index_or coordinates k 0)))

-- z with the sign of row k: negated unless the row keeps its sign
abbrev pub signed : List ℕ → Terms → ℕ → ℤ → ℤ
signed coordinates target k z = cond (keeps_sign coordinates target k) z (neg_ℤ z)

-- the entry of row k at the column of terms
abbrev pub signed_coefficient : List ℕ → Terms → Terms → ℕ → ℤ
signed_coefficient coordinates target terms k = signed coordinates target k (coefficient terms (slice_index_or coordinates k 0))

-- new is old with z, with its row's sign, appended in the row of coordinate c, if there is such a row
abbrev pub IsTermPut : List ℕ → Terms → ℕ → ℤ → Terms → Terms → Type 0
IsTermPut coordinates target c z old new =
    ((k : ℕ) × (k < length coordinates) × (slice_index_or coordinates k 0 ≡ c) × (new ≡ old ++ (k, signed coordinates target k z) ∷ []))
    ⊎ (((k : ℕ) → k < length coordinates → slice_index_or coordinates k 0 ≢ c) × (new ≡ old))

-- the terms of a column whose first m entries are f
pub record IsReadColumn (m : ℕ) (f : ℕ → ℤ) (terms : Terms) : Type 0 where
  pub value_is : (g : ℕ → Rational) → sum_to ring_ℚ m (λ k. times (g k) (integer (f k))) ≡ rational_value terms g
  pub within : All (λ t. t.0 < m) terms

-- the terms of the column of a generator
abbrev pub IsColumnOf : List ℕ → Terms → Terms → Terms → Type 0
IsColumnOf coordinates target generator = IsReadColumn (length coordinates) (signed_coefficient coordinates target generator)

-- the columns but the artificial ones
abbrev pub AreReadColumns : List ℕ → List Terms → Terms → List Terms → Type 0
AreReadColumns coordinates generators target columns = (length columns ≡ length generators)
    × ((j : ℕ) → j < length generators → IsColumnOf coordinates target (slice_index_or generators j []) (slice_index_or columns j []))

-- norm is at least 1, and no column weighs more
pub record IsNorm (columns : List Terms) (norm : ℕ) : Type 0 where
  pub some : 1 ≤ norm
  pub short : norm < signed_limit
  pub bounds : (j : ℕ) → j < length columns → row_mass (slice_index_or columns j []) ≤ norm

-- the right side of row k: the absolute value of the target's coefficient
abbrev pub right_size : List ℕ → Terms → ℕ → ℕ
right_size coordinates target k = unsigned_abs (coefficient target (slice_index_or coordinates k 0))

-- the sum of the first k right sides
abbrev pub right_sum : List ℕ → Terms → ℕ → ℕ
right_sum coordinates target zero = 0
right_sum coordinates target (suc k) = right_size coordinates target k + right_sum coordinates target k

-- q is the whole number z, within limit
pub record IsShortWhole (limit : ℕ) (q : Rational) (z : ℤ) : Type 0 where
  pub value_is : q ≡ integer z
  pub small : unsigned_abs z ≤ limit

-- row is row i of the start at the artificial columns and the right side, for any other columns
pub record IsReadRow (coordinates : List ℕ) (target : Terms) (limit i : ℕ) (row : WholeRowView) : Type 0 where
  pub length_is : length row.numbers ≡ length coordinates + 1
  pub each : (generators : List Terms) (k : ℕ) → k < length coordinates + 1
      → IsShortWhole limit ((start_of coordinates generators target).entry i (length generators + k)) (number_at row.numbers k)
  pub denominator_is : row.denominator ≡ 1

-- the first count rows, whole numbers within the limit
abbrev pub AreReadRows : List ℕ → Terms → ℕ → ℕ → List WholeRowView → Type 0
AreReadRows coordinates target limit count rows = (length rows ≡ count) × ((i : ℕ) → i < count → IsReadRow coordinates target limit i (whole_row_at rows i))
