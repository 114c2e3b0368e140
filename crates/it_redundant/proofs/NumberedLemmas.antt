-- Rows that are taken out of the constraints of a problem, and put back.
use Rattle.std.proofs.Common.{◌≡◌, ℕ, suc, ◌+◌, List, [], ◌∷◌, ◌++◌, length, take, drop, refl, sym, ap, ap₂, subst, ◌∙◌, arith, append_assoc, length-append}
use Rattle.std.specs.Prelude.{get_or}
use Rattle.std.proofs.Math.Seq.{take-append_seam, drop-append_seam, get_or-append_seam}
use Rattle.it_problems.specs.declared.problems.Constraint.{Constraint}
use Rattle.it_problems.specs.declared.problems.Kind.{Kind}
use Rattle.it_problems.specs.declared.problems.Kind.TheVariants.{Inequality}
use Rattle.it_problems.specs.declared.problems.Origin.TheVariants.{Rate}
use Rattle.it_space.specs.Rows.{Terms}
use Rattle.it_eliminate.specs.RowLines.{row_constraints}
use Rattle.it_redundant.specs.ReductionSteps.{numbered}

-- rows that are numbered anew
pub numbered_rows : (line other : ℕ) (rows : List Terms) → numbered line (row_constraints other rows) ≡ row_constraints line rows
numbered_rows line other [] = refl
numbered_rows line other (row ∷ rows) = ap (λ (cs : List Constraint). record { row = row; kind = Inequality; origin = Rate line } ∷ cs)
    (numbered_rows (line + 1) (other + 1) rows)

module _ (before : List Constraint) (place : ℕ) (place_is : length before ≡ place) where
  -- what stands before a place, and from there on
  front_is : (cs : List Constraint) → take place (before ++ cs) ≡ before
  front_is cs = subst (λ (n : ℕ). take n (before ++ cs) ≡ before) place_is (take-append_seam before cs)

  rest_is : (cs : List Constraint) → drop place (before ++ cs) ≡ cs
  rest_is cs = subst (λ (n : ℕ). drop n (before ++ cs) ≡ cs) place_is (drop-append_seam before cs)

  after_is : (c : Constraint) (cs : List Constraint) → drop (place + 1) (before ++ c ∷ cs) ≡ cs
  after_is c cs = subst (λ (n : ℕ). drop n (before ++ c ∷ cs)
      ≡ cs) e (ap (drop (length (before ++ c ∷ []))) (sym (append_assoc before (c ∷ []) cs)) ∙ drop-append_seam (before ++ c ∷ []) cs)
    where
      e : length (before ++ c ∷ []) ≡ place + 1
      e = let n = length-append before (c ∷ []) in omega (arith, n, place_is)

  after_next : (c : Constraint) (cs : List Constraint) → drop (suc place) (before ++ c ∷ cs) ≡ cs
  after_next c cs = ap (λ (n : ℕ). drop n (before ++ c ∷ cs)) (let e : suc place ≡ place + 1 = omega arith in e) ∙ after_is c cs

  -- the constraint at the place
  pub row_at : (old : List Constraint) (line : ℕ) (row : Terms) (rows : List Terms) (c : Constraint) → old ≡ before ++ row_constraints line (row ∷ rows)
      → c ≡ get_or old place c → c ≡ record { row = row; kind = Inequality; origin = Rate line }
  row_at old line row rows c o e = e ∙ ap (λ (cs : List Constraint). get_or cs place c) o
      ∙ ap (λ (n : ℕ). get_or (before ++ row_constraints line (row ∷ rows)) n c) (sym place_is)
      ∙ get_or-append_seam before record { row = row; kind = Inequality; origin = Rate line } (row_constraints (line + 1) rows) c

  -- a row that was taken out
  pub row_removed : (old gone new : List Constraint) (line : ℕ) (row : Terms) (rows : List Terms) → old ≡ before ++ row_constraints line (row ∷ rows)
      → gone ≡ take place old ++ drop (suc place) old → new ≡ take place gone ++ numbered line (drop place gone) → new ≡ before ++ row_constraints line rows
  row_removed old gone new line row rows o g n =
      let rest = row_constraints (line + 1) rows in
      let c : Constraint = record { row = row; kind = Inequality; origin = Rate line } in
      let gone_is : gone ≡ before ++ rest = g ∙ ap₂ (λ (xs ys : List Constraint). xs ++ ys) (ap (take place) o ∙ front_is (c ∷ rest))
      (ap (drop (suc place)) o ∙ after_next c rest) in
      n ∙ ap₂ (λ (xs ys : List Constraint). xs ++ ys) (ap (take place) gone_is ∙ front_is rest)
      (ap (numbered line) (ap (drop place) gone_is ∙ rest_is rest) ∙ numbered_rows line (line + 1) rows)

  -- a row that was put in
  pub row_inserted : (old more new : List Constraint) (line : ℕ) (rows : List Terms) (c : Constraint) → c.kind ≡ Inequality
      → old ≡ before ++ row_constraints line rows → more ≡ take place old ++ c ∷ drop place old
      → new ≡ take place more ++ numbered line (drop place more) → new ≡ before ++ row_constraints line (c.row ∷ rows)
  row_inserted old more new line rows c is o m n =
      let rest = row_constraints line rows in
      let more_is : more ≡ before ++ c ∷ rest = m ∙ ap₂ (λ (xs ys : List Constraint). xs ++ c ∷ ys) (ap (take place) o ∙ front_is rest)
      (ap (drop place) o ∙ rest_is rest) in
      n ∙ ap₂ (λ (xs ys : List Constraint). xs ++ ys) (ap (take place) more_is ∙ front_is (c ∷ rest))
      (ap (numbered line) (ap (drop place) more_is ∙ rest_is (c ∷ rest))
      ∙ ap₂ (λ (k : Kind) (cs : List Constraint). record { row = c.row; kind = k; origin = Rate line } ∷ cs) is (numbered_rows (line + 1) line rows))
