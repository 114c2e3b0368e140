-- The rows of the start, one after another.
use Rattle.std.proofs.Common.{◌≡◌, ℕ, ◌+◌, ◌<◌, List, [], ◌∷◌, ◌++◌, length, length-append, ap, subst, sym, ◌∙◌, ◌⊎◌, inl, inr, arith}
use Rattle.std.proofs.lemmas.Bool.{cases_eq}
use Rattle.std.proofs.lemmas.List.{get_or_append_left}
use Rattle.std.proofs.Math.Seq.{get_or-append_seam}
use Rattle.it_rational.specs.Rational.{Rational}
use Rattle.it_space.specs.Rows.{Terms}
use Rattle.it_tableau.specs.Operations.{rationals}
use Rattle.it_tableau.specs.Problems.{feasibility_problem}
use Rattle.it_tableau.specs.Entries.{row_at}
use Rattle.it_tableau.specs.Rows.{IsWholeNumber, ListsValues}
use Rattle.it_tableau.specs.StartRows.{AreStartRows}
use Rattle.it_tableau.specs.SimplexTables.{start_row}

-- one row more
pub start_rows_more : (cs : List ℕ) (columns : List Terms) (target : Terms) (k : ℕ) (rows : List (List Rational)) (x : List Rational)
    → AreStartRows cs columns target k rows
    → ListsValues (start_row rationals (length cs) (length columns) (feasibility_problem cs columns target) k) (length columns + length cs + 1) x
    → ((j : ℕ) → j < length columns + length cs + 1
    → IsWholeNumber (start_row rationals (length cs) (length columns) (feasibility_problem cs columns target) k j))
    → AreStartRows cs columns target (k + 1) (rows ++ x ∷ [])
start_rows_more cs columns target k rows x a s w = record {
  rows_are = length-append rows (x ∷ []) ∙ (let l = a.rows_are in omega (arith, l));
  entries_are = λ i l. entries_by_cases i l (cases_eq i k);
  wholes = λ i j l h. wholes_by_cases i j l h (cases_eq i k);
}
  where
    entries_by_cases : (i : ℕ) → i < k + 1 → (i ≡ k) ⊎ (i ≡ k → ⊥)
        → ListsValues (start_row rationals (length cs) (length columns) (feasibility_problem cs columns target) i)
        (length columns + length cs + 1) (row_at (rows ++ x ∷ []) i)
    entries_by_cases i l (inl q) = subst (ListsValues (start_row rationals (length cs) (length columns)
        (feasibility_problem cs columns target) i) (length columns + length cs + 1))
        (sym (ap (λ j. row_at (rows ++ x ∷ []) j) (q ∙ sym a.rows_are) ∙ get_or-append_seam rows x [] []))
        (subst (λ (j : ℕ). ListsValues (start_row rationals (length cs) (length columns) (feasibility_problem cs columns target) j)
        (length columns + length cs + 1) x) (sym q) s)
    entries_by_cases i l (inr d) = subst (ListsValues (start_row rationals (length cs) (length columns)
        (feasibility_problem cs columns target) i) (length columns + length cs + 1))
        (sym (get_or_append_left rows (x ∷ []) [] i (omega (arith, a.rows_are)))) (a.entries_are i (omega arith))

    wholes_by_cases : (i j : ℕ) → i < k + 1 → j < length columns + length cs + 1 → (i ≡ k) ⊎ (i ≡ k → ⊥)
        → IsWholeNumber (start_row rationals (length cs) (length columns) (feasibility_problem cs columns target) i j)
    wholes_by_cases i j l h (inl q) = subst (λ (x : ℕ). IsWholeNumber (start_row rationals (length cs) (length columns)
        (feasibility_problem cs columns target) x j)) (sym q) (w j h)
    wholes_by_cases i j l h (inr d) = a.wholes i j (omega arith) h
