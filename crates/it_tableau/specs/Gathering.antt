-- No public clause cites this module: the terms of the start's rows, column after column.
use Rattle.std.specs.Prelude.{◌≡◌, ◌≢◌, ℕ, ◌<◌, List, [], length, slice_index_or}
use Rattle.it_rational.specs.Rational.{Rational}
use Rattle.it_space.specs.Rows.{Terms}
use Rattle.it_tableau.specs.Merging.{IsAppended}
use Rattle.it_tableau.specs.StartRows.{start_number}
use Rattle.it_tableau.specs.SparseRows.{RowTerms, ListsEntries}

-- the terms of row k, none past the end
abbrev pub row_terms_at : List RowTerms → ℕ → RowTerms
row_terms_at lists k = slice_index_or lists k []

-- no list but list k is changed
pub record IsListTaken (old : List RowTerms) (k : ℕ) (new : List RowTerms) : Type 0 where
  pub count : length new ≡ length old
  pub others : (i : ℕ) → i ≢ k → row_terms_at new i ≡ row_terms_at old i

-- the rows of coordinate c have their number f k in column j appended
pub record IsEntryPut (coordinates : List ℕ) (f : ℕ → Rational) (c j : ℕ) (old new : List RowTerms) : Type 0 where
  pub count : length new ≡ length old
  pub own : (k : ℕ) → k < length coordinates → slice_index_or coordinates k 0 ≡ c → IsAppended (row_terms_at old k) j (f k) (row_terms_at new k)
  pub others : (k : ℕ) → k < length coordinates → slice_index_or coordinates k 0 ≢ c → row_terms_at new k ≡ row_terms_at old k

-- each row has its number f k in column j appended
pub record AreAppended (coordinates : List ℕ) (f : ℕ → Rational) (j : ℕ) (old new : List RowTerms) : Type 0 where
  pub count : length new ≡ length old
  pub rows : (k : ℕ) → k < length coordinates → IsAppended (row_terms_at old k) j (f k) (row_terms_at new k)

-- count empty lists
pub record AreEmpty {A : Type 0} (count : ℕ) (lists : List (List A)) : Type 0 where
  pub count_is : length lists ≡ count
  pub empty : (k : ℕ) → k < count → slice_index_or lists k [] ≡ []

-- each row has its terms in the first n columns
pub record AreGathered (coordinates : List ℕ) (columns : List Terms) (target : Terms) (n : ℕ) (lists : List RowTerms) : Type 0 where
  pub count : length lists ≡ length coordinates
  pub rows : (k : ℕ) → k < length coordinates → ListsEntries (start_number coordinates columns target k) n (row_terms_at lists k)
