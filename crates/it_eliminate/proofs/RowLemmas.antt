-- Rows as constraints after the givens.
use Rattle.std.proofs.Common.{◌≡◌, ℕ, suc, ◌+◌, ◌≤◌, ℤ, List, [], ◌∷◌, ◌++◌, length, refl, sym, ap, ◌∙◌, arith, append_assoc, length-append, All}
use Rattle.std.proofs.lemmas.List.Elements.{All-nil, All-cons, All-head, All-tail, All-append}
use Rattle.it_problems.specs.declared.problems.Constraint.{Constraint}
use Rattle.it_problems.specs.declared.problems.Kind.TheVariants.{Inequality}
use Rattle.it_problems.specs.declared.problems.Origin.TheVariants.{Rate}
use Rattle.it_problems.specs.Problems.{ProblemView, IsProblem, IsMet, AreMet}
use Rattle.it_space.specs.Rows.{Terms, IsOver}
use Rattle.it_space.specs.Spaces.{size_of}
use Rattle.it_eliminate.specs.Projections.{IsPointOf}
use Rattle.it_eliminate.proofs.OrderLemmas.{RowHolds}
use Rattle.it_eliminate.specs.RowLines.{row_constraints, with_rows}

module _ (p : ℕ → ℤ) where
  pub rows_are_met : (line : ℕ) (rows : List Terms) → IsPointOf rows p → AreMet p (row_constraints line rows)
  rows_are_met line [] h = All-nil (IsMet p)
  rows_are_met line (row ∷ rows) h = All-cons (IsMet p) _ (row_constraints (line + 1) rows) (All-head (RowHolds p) row rows h)
      (rows_are_met (line + 1) rows (All-tail (RowHolds p) row rows h))

  pub met_rows_hold : (line : ℕ) (rows : List Terms) → AreMet p (row_constraints line rows) → IsPointOf rows p
  met_rows_hold line [] h = All-nil (RowHolds p)
  met_rows_hold line (row ∷ rows) h = All-cons (RowHolds p) row rows (All-head (IsMet p) _ (row_constraints (line + 1) rows) h)
      (met_rows_hold (line + 1) rows (All-tail (IsMet p) _ (row_constraints (line + 1) rows) h))

  -- what meets the givens and the rows meets the problem, and back
  pub problem_is_met : (givens : ProblemView) (rows : List Terms) → AreMet p givens.constraints → IsPointOf rows p
      → AreMet p (with_rows givens rows).constraints
  problem_is_met givens rows h k = All-append (IsMet p) givens.constraints (row_constraints 1 rows) h (rows_are_met 1 rows k)

-- ---- the problem keeps the limits

row_limits : (size line : ℕ) (rows : List Terms) → All (IsOver size) rows → All (λ (c : Constraint). IsOver size c.row) (row_constraints line rows)
row_limits size line [] h = All-nil (λ (c : Constraint). IsOver size c.row)
row_limits size line (row ∷ rows) h = All-cons (λ (c : Constraint). IsOver size c.row) _ (row_constraints (line + 1) rows)
    (All-head (IsOver size) row rows h) (row_limits size (line + 1) rows (All-tail (IsOver size) row rows h))

pub row_count : (line : ℕ) (rows : List Terms) → length (row_constraints line rows) ≡ length rows
row_count line [] = refl
row_count line (row ∷ rows) = ap suc (row_count (line + 1) rows)

pub problem_limits : (givens : ProblemView) (rows : List Terms) → IsProblem givens → length givens.constraints ≤ 65535 → length rows ≤ 65535
    → All (IsOver (size_of givens.space)) rows → IsProblem (with_rows givens rows)
problem_limits givens rows h few few_rows up = record {
  space = h.space;
  rows = All-append (λ (c : Constraint). IsOver (size_of givens.space) c.row) givens.constraints (row_constraints 1 rows) h.rows
      (row_limits (size_of givens.space) 1 rows up);
  few = let total : length (givens.constraints ++ row_constraints 1 rows) ≡ length givens.constraints + length rows
      = length-append givens.constraints (row_constraints 1 rows) ∙ ap (λ n. length givens.constraints + n) (row_count 1 rows) in
      omega (arith, total, few, few_rows);
}

-- ---- rows in two parts

pub row_parts : (line : ℕ) (xs ys : List Terms) → row_constraints line (xs ++ ys) ≡ row_constraints line xs ++ row_constraints (line + length xs) ys
row_parts line [] ys = ap (λ n. row_constraints n ys) (let e : line ≡ line + 0 = omega arith in e)
row_parts line (x ∷ xs) ys = ap (λ (cs : List Constraint). record { row = x; kind = Inequality; origin = Rate line } ∷ cs)
    (row_parts (line + 1) xs ys ∙ ap (λ n. row_constraints (line + 1) xs ++ row_constraints n ys)
    (let e : line + 1 + length xs ≡ line + suc (length xs) = omega arith in e))

-- the givens with two parts of rows after them
pub with_parts : (givens : ProblemView) (cs : List Constraint) (xs ys : List Terms) (line : ℕ) → line ≡ 1 + length xs
    → cs ≡ (givens.constraints ++ row_constraints 1 xs) ++ row_constraints line ys
    → record { space = givens.space; constraints = cs } ≡ with_rows givens (xs ++ ys)
with_parts givens cs xs ys line l e = ap (λ (ds : List Constraint). record { space = givens.space; constraints = ds }) (e
    ∙ append_assoc givens.constraints (row_constraints 1 xs) (row_constraints line ys)
    ∙ ap (λ (ds : List Constraint). givens.constraints ++ ds) (ap (λ n. row_constraints 1 xs ++ row_constraints n ys) l ∙ sym (row_parts 1 xs ys)))
