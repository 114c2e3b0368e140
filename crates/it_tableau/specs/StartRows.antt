-- No public clause cites this module: the rows of the start while they are built.
use Rattle.std.specs.Prelude.{◌≡◌, ℕ, ◌+◌, ◌<◌, List, [], ◌∷◌, ◌++◌, length}
use Rattle.it_rational.specs.Rational.{Rational, minus}
use Rattle.it_space.specs.Rows.{Terms}
use Rattle.it_tableau.specs.Operations.{rationals}
use Rattle.it_tableau.specs.SimplexTables.{start_row}
use Rattle.it_tableau.specs.Entries.{row_at}
use Rattle.it_tableau.specs.Rows.{column_sum, IsWholeNumber, ListsValues}
use Rattle.it_tableau.specs.Problems.{feasibility_problem}

-- the entry of the start in row k and column j
abbrev pub start_number : List ℕ → List Terms → Terms → ℕ → ℕ → Rational
start_number coordinates columns target k j = start_row rationals (length coordinates) (length columns) (feasibility_problem coordinates columns target) k j

-- column j of the start, as a function of its row
abbrev pub start_column : List ℕ → List Terms → Terms → ℕ → ℕ → Rational
start_column coordinates columns target j k = start_number coordinates columns target k j

-- the list row is row k of the start
abbrev pub IsStartRow : List ℕ → List Terms → Terms → ℕ → List Rational → Type 0
IsStartRow coordinates columns target k row = ListsValues (start_number coordinates columns target k) (length columns + length coordinates + 1) row

-- the entries of row k of the start are whole numbers
abbrev pub IsWholeRow : List ℕ → List Terms → Terms → ℕ → Type 0
IsWholeRow coordinates columns target k = (j : ℕ) → j < length columns + length coordinates + 1 → IsWholeNumber (start_number coordinates columns target k j)

-- rows are the first k rows of the start
pub record AreStartRows (coordinates : List ℕ) (columns : List Terms) (target : Terms) (k : ℕ) (rows : List (List Rational)) : Type 0 where
  pub rows_are : length rows ≡ k
  pub entries_are : (i : ℕ) → i < k → IsStartRow coordinates columns target i (row_at rows i)
  pub wholes : (i j : ℕ) → i < k → j < length columns + length coordinates + 1 → IsWholeNumber (start_number coordinates columns target i j)

-- all are the rows of the start, and after them the cost row
pub record AreAllRows (coordinates : List ℕ) (columns : List Terms) (target : Terms) (all : List (List Rational)) : Type 0 where
  pub rows : List (List Rational)
  pub cost : List Rational
  pub all_are : all ≡ rows ++ cost ∷ []
  pub rows_are : AreStartRows coordinates columns target (length coordinates) rows
  pub cost_is : ListsValues (λ j. minus (column_sum rows j (length rows))) (length columns + length coordinates + 1) cost
