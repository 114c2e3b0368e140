-- No public clause cites this module: the rows and columns of an engine, and a pivot on all rows.
use Rattle.std.specs.Prelude.{◌≡◌, ◌≢◌, ℕ, ◌*◌, All, [], slice_index_or, ◌<◌, ℤ, List, length}
use Rattle.it_rational.specs.Rational.{Rational, times, inverse, IsRatio}
use Rattle.it_space.specs.Rows.{Terms, row_mass}
use Rattle.it_space.specs.Sums.{number_at}
use Rattle.it_whole.specs.ColumnTerms.{Suits}
use Rattle.it_whole.specs.Updates.{IsUpdated}
use Rattle.it_whole.specs.WholeRows.{IsRow, IsUsable, WholeRowView}
use Rattle.it_engine.specs.Tables.{whole_row_at}
use Rattle.it_number.specs.Limit.{signed_limit}

-- each of the columns suits a row with these numbers
abbrev pub AllSuit : List Terms → List ℤ → Type 0
AllSuit columns numbers = (j : ℕ) → j < length columns → Suits (slice_index_or columns j []) numbers

-- the column suits each of the rows
abbrev pub SuitsAll : Terms → List WholeRowView → Type 0
SuitsAll terms rows = (i : ℕ) → i < length rows → Suits terms (whole_row_at rows i).numbers

-- a column whose entries in usable rows are short
pub record IsFitting (width limit : ℕ) (terms : Terms) : Type 0 where
  pub within : All (λ t. t.0 < width) terms
  pub fits : row_mass terms * limit < signed_limit

-- the entries of all columns in usable rows are short
abbrev pub AreFitting : ℕ → ℕ → List Terms → Type 0
AreFitting width limit columns = (j : ℕ) → j < length columns → IsFitting width limit (slice_index_or columns j [])

-- all rows are usable
abbrev pub AreUsable : ℕ → ℕ → List WholeRowView → Type 0
AreUsable width limit rows = (i : ℕ) → i < length rows → IsUsable width limit (whole_row_at rows i)

-- new is old, the leaving row, divided by its entry p
abbrev pub IsWholeRowDivided : ℕ → ℕ → WholeRowView → ℤ → WholeRowView → Type 0
IsWholeRowDivided width limit old p new = (g : ℕ → Rational) (w : Rational) → IsRow width limit g old.numbers old.denominator → IsRatio w p old.denominator
    → IsRow width limit (λ k. times (g k) (inverse w)) new.numbers new.denominator

-- row i is updated in a step in which own leaves, whose entry is p
abbrev pub IsRowUpdated : ℕ → List WholeRowView → List ℤ → WholeRowView → ℤ → ℕ → List WholeRowView → Type 0
IsRowUpdated limit old entries own p i new = IsUpdated (length own.numbers) limit (whole_row_at old i) own (number_at entries i) p (whole_row_at new i)

-- new are the rows after a pivot on row r and the column at which row i has entry i
pub record AreWholeRowsPivoted (width limit : ℕ) (old : List WholeRowView) (entry : ℕ → ℤ) (r : ℕ) (new : List WholeRowView) : Type 0 where
  pub same_length : length new ≡ length old
  pub others : (i : ℕ) → i < length old → i ≢ r → IsUpdated width limit (whole_row_at old i) (whole_row_at old r) (entry i) (entry r) (whole_row_at new i)
  pub own : IsWholeRowDivided width limit (whole_row_at old r) (entry r) (whole_row_at new r)
  pub own_usable : IsUsable width limit (whole_row_at new r)
