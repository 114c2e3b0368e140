-- The rows of the start with their cost row show the start, and its numbers are theirs.
use Rattle.std.proofs.Common.{◌≡◌, ℕ, ◌+◌, ◌<◌, ◌≤◌, pos, List, [], ◌∷◌, ◌++◌, length, length-append, slice_index_or, refl, sym, ap, ap₂, subst, ◌∙◌, ◌⊎◌, inl, inr, arith, cond, eqb}
use Rattle.std.proofs.lemmas.Bool.{cases_lt, cases_eq, lt-ltb, le-ltb, eq-eqb, ne_eqb}
use Rattle.std.proofs.lemmas.List.{get_or_append_left, get_or_past}
use Rattle.std.proofs.Math.Seq.{get_or-append_seam}
use Rattle.it_number.proofs.Ring.{ring, minus, nil}
use Rattle.it_rational.specs.Rational.{Rational}
use Rattle.it_rational.specs.Rational as Q
use Rattle.it_rational.proofs.RationalLaws.{ring_ℚ}
use Rattle.it_space.specs.Rows.{Terms}
use Rattle.it_fraction.specs.Fits.{SumFits}
use Rattle.it_tableau.specs.Operations.{rationals}
use Rattle.it_tableau.specs.FieldOperations.{sum_to}
use Rattle.it_tableau.specs.Fits.{StartFits}
use Rattle.it_tableau.specs.Problems.{feasibility_problem}
use Rattle.it_tableau.specs.Entries.{entry_at, row_at}
use Rattle.it_tableau.specs.Rows.{column_sum, ColumnsFit, ListsValues}
use Rattle.it_tableau.specs.StartRows.{AreStartRows}
use Rattle.it_tableau.specs.TableauViews.{table_of, start_of}
use Rattle.it_tableau.specs.SimplexTables.{FeasibilityProblem, SimplexTable, sign, start_row}
use Rattle.it_tableau.proofs.Sums.{sum_same, sum_null}
use Rattle.it_tableau.proofs.ViewLemmas.{entry_past_end, entry_past_rows, same_functions}
use Rattle.it_tableau.proofs.WholeNumbers.{sums_narrow, sums_fit}

module _ (cs : List ℕ) (columns : List Terms) (target : Terms) where
  -- how many rows and how many columns there are
  abbrev m : ℕ
  m = length cs

  abbrev n : ℕ
  n = length columns

  -- entry j of row k of the start
  abbrev entry : ℕ → ℕ → Rational
  entry k j = start_row rationals (length cs) (length columns) (feasibility_problem cs columns target) k j

  -- past the right side a row of the start has nothing
  entry_past : (k j : ℕ) → k < length cs → length columns + length cs + 1 ≤ j → entry k j ≡ Q.integer (pos 0)
  entry_past k j h l =
      let p : FeasibilityProblem Rational = feasibility_problem cs columns target in
      ap (λ b. cond b (Q.times (sign rationals p k) (p.column j k)) (cond (eqb j (n + m)) (Q.times (sign rationals p k) (p.target k))
      (cond (eqb j (n + k)) (Q.integer (pos 1)) (Q.integer (pos 0))))) (le-ltb j n (omega arith))
      ∙ ap₂ (λ b d. cond b (Q.times (sign rationals p k) (p.target k)) (cond d (Q.integer (pos 1)) (Q.integer (pos 0))))
      (ne_eqb j (n + m) (λ e. omega arith)) (ne_eqb j (n + k) (λ e. omega arith))

  module _ (rows : List (List Rational)) (a : AreStartRows cs columns target (length cs) rows) where
    sum_is : (k j : ℕ) → k ≤ length cs → j < length columns + length cs + 1 → column_sum rows j k ≡ sum_to ring_ℚ k (λ i. entry i j)
    sum_is k j h l = sum_same ring_ℚ k (λ i. entry_at (row_at rows i) j) (λ i. entry i j) (λ i q. (a.entries_are i (omega arith)).entries j l)

    -- the additions of the cost row fit exactly where its partial sums do
    pub start_fits : ColumnsFit rows (length columns + length cs + 1) → StartFits (length cs) (length columns) (feasibility_problem cs columns target)
    start_fits fits k j h l = sums_narrow (length cs) (λ i. entry i j) (λ i q. a.wholes i j q l)
        (λ i q. subst (λ (x : Rational). SumFits x (sum_to ring_ℚ i (λ i. entry i j))) ((a.entries_are i q).entries j l)
        (subst (SumFits (entry_at (row_at rows i) j)) (sum_is i j (omega arith) l) (fits j l i (omega (arith, a.rows_are))))) k h

    pub columns_fit : StartFits (length cs) (length columns) (feasibility_problem cs columns target) → ColumnsFit rows (length columns + length cs + 1)
    columns_fit fits j l i q =
        let h : i < length cs = omega (arith, a.rows_are) in
        subst (λ (x : Rational). SumFits x (column_sum rows j i)) (sym ((a.entries_are i h).entries j l))
        (subst (SumFits (entry i j)) (sym (sum_is i j (omega arith) l)) (sums_fit (length cs) (λ i. entry i j) (λ i q. a.wholes i j q l)
        (λ k h. fits k j h l) i h))

    module _ (cost : List Rational) (s : ListsValues (λ j. Q.minus (column_sum rows j (length rows))) (length columns + length cs + 1) cost) where
      cost_is : (j : ℕ) → j < length columns + length cs + 1 → entry_at cost j ≡ Q.minus (sum_to ring_ℚ (length cs) (λ i. entry i j))
      cost_is j l = s.entries j l ∙ ap (λ k. Q.minus (column_sum rows j k)) a.rows_are ∙ ap Q.minus (sum_is m j (omega arith) l)

      cost_past : (j : ℕ) → length columns + length cs + 1 ≤ j → Q.minus (sum_to ring_ℚ (length cs) (λ i. entry i j)) ≡ Q.integer (pos 0)
      cost_past j l = ap Q.minus (sum_same ring_ℚ m (λ i. entry i j) (λ i. Q.integer (pos 0)) (λ i q. entry_past i j q l)
          ∙ sum_null ring_ℚ m) ∙ ring ring_ℚ [] (minus nil) nil refl

      upper_rows_stay : (i : ℕ) → i < length cs → row_at (rows ++ cost ∷ []) i ≡ row_at rows i
      upper_rows_stay i h = get_or_append_left rows (cost ∷ []) [] i (omega (arith, a.rows_are))

      last_row_is_cost : (i : ℕ) → i ≡ length cs → row_at (rows ++ cost ∷ []) i ≡ cost
      last_row_is_cost i e = ap (row_at (rows ++ cost ∷ [])) (e ∙ sym a.rows_are) ∙ get_or-append_seam rows cost [] []

      all_length : length (rows ++ cost ∷ []) ≡ length cs + 1
      all_length = length-append rows (cost ∷ []) ∙ (let l = a.rows_are in omega (arith, l))

      entries : (i j : ℕ) → (i < length cs) ⊎ (length cs ≤ i) → (i ≡ length cs) ⊎ (i ≡ length cs → ⊥)
          → (j < length columns + length cs + 1) ⊎ (length columns + length cs + 1 ≤ j)
          → entry_at (row_at (rows ++ cost ∷ []) i) j ≡ (start_of cs columns target).entry i j
      entries i j (inl h) e w = ap (λ r. entry_at r j) (upper_rows_stay i h) ∙ by_cases w
          ∙ ap (λ b. cond b (entry i j) (cond (eqb i m) (Q.minus (sum_to ring_ℚ m (λ k. entry k j))) (Q.integer (pos 0)))) (sym (lt-ltb i m h))
        where
          by_cases : (j < length columns + length cs + 1) ⊎ (length columns + length cs + 1 ≤ j) → entry_at (row_at rows i) j ≡ entry i j
          by_cases (inl l) = (a.entries_are i h).entries j l
          by_cases (inr l) = entry_past_end (row_at rows i) j (omega (arith, (a.entries_are i h).length_is)) ∙ sym (entry_past i j h l)
      entries i j (inr h) (inl e) w = ap (λ r. entry_at r j) (last_row_is_cost i e) ∙ by_cases w
          ∙ ap₂ (λ b d. cond b (entry i j) (cond d (Q.minus (sum_to ring_ℚ m (λ k. entry k j))) (Q.integer (pos 0)))) (sym (le-ltb i m h)) (sym (eq-eqb i m e))
        where
          by_cases : (j < length columns + length cs + 1) ⊎ (length columns + length cs + 1 ≤ j)
              → entry_at cost j ≡ Q.minus (sum_to ring_ℚ (length cs) (λ k. entry k j))
          by_cases (inl l) = cost_is j l
          by_cases (inr l) = entry_past_end cost j (omega (arith, s.length_is)) ∙ sym (cost_past j l)
      entries i j (inr h) (inr d) w = entry_past_rows (rows ++ cost ∷ []) i j (omega (arith, all_length))
          ∙ ap₂ (λ b d. cond b (entry i j) (cond d (Q.minus (sum_to ring_ℚ m (λ k. entry k j))) (Q.integer (pos 0)))) (sym (le-ltb i m h)) (sym (ne_eqb i m d))

      module _ (basis : List ℕ) (count : length basis ≡ length cs) (value : (i : ℕ) → i < length cs → slice_index_or basis i 0 ≡ length columns + i) where
        basis_is : (i : ℕ) → (i < length cs) ⊎ (length cs ≤ i) → slice_index_or basis i 0 ≡ (start_of cs columns target).basis i
        basis_is i (inl h) = value i h ∙ ap (λ b. cond b (n + i) 0) (sym (lt-ltb i m h))
        basis_is i (inr h) = get_or_past basis i 0 (omega (arith, count)) ∙ ap (λ b. cond b (n + i) 0) (sym (le-ltb i m h))

        pub start_shown : table_of (rows ++ cost ∷ []) basis ≡ start_of cs columns target
        start_shown = ap₂ (λ (e : ℕ → ℕ → Rational) (b : ℕ → ℕ). let t : SimplexTable Rational = record { entry = e; basis = b } in t)
            (same_functions (λ i. same_functions (λ j. entries i j (cases_lt i m) (cases_eq i m) (cases_lt j (n + m + 1)))))
            (same_functions (λ i. basis_is i (cases_lt i m)))
