-- The visit of one row. No public clause cites this module.
use Rattle.std.specs.Prelude.{◌≡◌, ℕ, ◌+◌, List, [], ◌∷◌, ◌++◌, All, length, map}
use Rattle.it_problems.specs.declared.problems.Constraint.{Constraint}
use Rattle.it_problems.specs.declared.problems.Origin.TheVariants.{Rate}
use Rattle.it_problems.specs.Problems.{ProblemView}
use Rattle.it_space.specs.Rows.{Terms, IsOver}
use Rattle.it_prove.specs.ProofViews.{ProofView, EndsWith}
use Rattle.it_prove.specs.declared.types.Effort.{Effort}
use Rattle.it_redundant.specs.declared.types.Reduced.{Reduced}
use Rattle.it_eliminate.specs.RowLines.{row_constraints, with_rows}
use Rattle.it_redundant.specs.Reduction.{kept_by, dropped_by, kept_rows, kept_view, dropped_view}

-- the coordinates of each row are from 1 to size
abbrev pub AreRowsUpTo : ℕ → List Terms → Type 0
AreRowsUpTo size rows = All (IsOver size) rows

-- row was visited between the rows kept so far and those after it
pub record IsVisited (givens : ProblemView) (effort : Effort) (row : Terms) (after : List Terms) (old new : Reduced) : Type 0 where
  pub outcome : ProofView
  pub ends : EndsWith (with_rows givens (kept_rows (kept_view old) ++ after)) row effort outcome
  pub kept : kept_view new ≡ kept_view old ++ kept_by row outcome
  pub dropped : dropped_view new ≡ dropped_view old ++ dropped_by row outcome

-- the givens with the rows kept so far, and then rows that aren't visited yet
abbrev pub with_unvisited : ProblemView → Reduced → List Terms → ProblemView
with_unvisited givens reduced rows = with_rows givens (map (λ k. k.0) reduced.kept.items ++ rows)

-- constraints as those of `row` lines, from line number `line` on
abbrev pub numbered : ℕ → List Constraint → List Constraint
numbered line [] = []
numbered line (c ∷ cs) = record { row = c.row; kind = c.kind; origin = Rate line } ∷ numbered (line + 1) cs

-- the row at place, which was `row` line number line, is removed; the numbers of those after it go down by one
abbrev pub IsRemoved : ℕ → ℕ → List Constraint → List Constraint → Type 0
IsRemoved place line old new = (before : List Constraint) (row : Terms) (rows : List Terms) → length before ≡ place
    → old ≡ before ++ row_constraints line (row ∷ rows) → new ≡ before ++ row_constraints line rows

-- row is inserted at place, as `row` line number line; the numbers of those from there on go up by one
abbrev pub IsInserted : ℕ → ℕ → Terms → List Constraint → List Constraint → Type 0
IsInserted place line row old new = (before : List Constraint) (rows : List Terms) → length before ≡ place
    → old ≡ before ++ row_constraints line rows → new ≡ before ++ row_constraints line (row ∷ rows)
