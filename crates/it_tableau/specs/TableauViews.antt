-- The contracts' view of a tableau.
use Rattle.std.specs.Prelude.{◌≡◌, ℕ, ◌+◌, ◌<◌, Bool, false, not, ℤ, pos, negsuc, if◌then◌else◌, List, length, slice_index_or}
use Rattle.it_rational.specs.Rational.{Rational, minus, integer, is_at_least_zero}
use Rattle.it_space.specs.Rows.{Terms, coefficient}
use Rattle.it_tableau.specs.Operations.{rationals}
use Rattle.it_tableau.specs.SimplexTables.{SimplexTable, ratio, start}
use Rattle.it_tableau.specs.Fits.{StartFits}
use Rattle.it_tableau.specs.Entries.{entry_at, row_at}
use Rattle.it_tableau.specs.Problems.{feasibility_problem}

-- a tableau as contracts see it
pub record TableauView : Type 0 where
  -- the number of columns but the artificial ones
  pub generator_columns : ℕ
  -- the rows with their right sides, and last the cost row
  pub rows : List (List Rational)
  -- the basic column of each row
  pub basis : List ℕ
  -- whether a row was negated at the start
  pub negated : List Bool
  -- whether an operation failed half-way, so that nothing is known of the rest
  pub spent : Bool

-- the number of rows but the cost row
abbrev pub height : TableauView → ℕ
height t = length t.basis

-- the number of columns but the right side
abbrev pub width : TableauView → ℕ
width t = t.generator_columns + height t

-- the table of lists of numbers, 0 where they have none
abbrev pub table_of : List (List Rational) → List ℕ → SimplexTable Rational
table_of rows basis = record { entry = λ i j. entry_at (row_at rows i) j; basis = λ i. slice_index_or basis i 0 }

-- the table that a tableau shows
abbrev pub table : TableauView → SimplexTable Rational
table t = table_of t.rows t.basis

-- the sign by which a row was multiplied at the start
abbrev pub row_sign : TableauView → ℕ → ℤ
row_sign t k = if slice_index_or t.negated k false then negsuc 0 else pos 1

-- the right side of row i divided by its entry at column c
abbrev pub row_ratio : TableauView → ℕ → ℕ → Rational
row_ratio t c i = ratio rationals (height t) t.generator_columns (table t) c i

-- q is above 0
abbrev pub IsPositive : Rational → Type 0
IsPositive q = is_at_least_zero (minus q) ≡ false

-- m rows and the cost row, each of n + m columns and a right side, and m basic columns
pub record HasShape (m n : ℕ) (rows : List (List Rational)) (basis : List ℕ) : Type 0 where
  pub rows_are : length rows ≡ m + 1
  pub entries_are : (i : ℕ) → i < m + 1 → length (row_at rows i) ≡ n + m + 1
  pub basis_is : length basis ≡ m

-- the parts of a tableau that isn't spent agree in their sizes
pub record IsSound (n width : ℕ) (rows : List (List Rational)) (basis : List ℕ) (negated : List Bool) : Type 0 where
  pub width_is : width ≡ n + length basis
  pub shape : HasShape (length basis) n rows basis
  pub signs_are : length negated ≡ length basis

-- the start of the feasibility problem of rows
abbrev pub start_of : List ℕ → List Terms → Terms → SimplexTable Rational
start_of coordinates columns target = start rationals (length coordinates) (length columns) (feasibility_problem coordinates columns target)

-- the numbers that the start forms are within the limit
abbrev pub FitsStart : List ℕ → List Terms → Terms → Type 0
FitsStart coordinates columns target = StartFits (length coordinates) (length columns) (feasibility_problem coordinates columns target)

-- negated says which rows the start negates: those at whose coordinate the target's coefficient is below 0
abbrev pub AreNegated : List ℕ → Terms → List Bool → Type 0
AreNegated coordinates target negated = (k : ℕ) → k < length coordinates → slice_index_or negated k false ≡ not (is_at_least_zero (integer (coefficient target (slice_index_or coordinates k 0))))

-- t is the start of the feasibility problem of rows
pub record IsStart (coordinates : List ℕ) (columns : List Terms) (target : Terms) (t : TableauView) : Type 0 where
  pub usable : t.spent ≡ false
  pub generator_columns_are : t.generator_columns ≡ length columns
  pub height_is : height t ≡ length coordinates
  pub table_is : table t ≡ start_of coordinates columns target
  pub signs_are : AreNegated coordinates target t.negated

-- the parts of a tableau that a pivot doesn't change
pub record KeepsFrame (old new : TableauView) : Type 0 where
  pub generator_columns : new.generator_columns ≡ old.generator_columns
  pub height : length new.basis ≡ length old.basis
  pub negated : new.negated ≡ old.negated
