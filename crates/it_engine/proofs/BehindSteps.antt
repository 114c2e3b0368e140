-- A degenerate step on a table of which some rows stay behind: only the rows that moved, the row that leaves and the cost row change.
use Rattle.std.proofs.Common.{◌≡◌, ◌⊎◌, inl, inr, ℕ, ◌+◌, ◌<◌, Bool, true, false, cond, eqb, ℤ, pos, List, [], ◌∷◌, length, slice_index_or, slice_set, refl, sym, ap, subst, ◌∙◌, arith}
use Rattle.std.proofs.lemmas.Bool.{cases_eq, eq-eqb, ne_eqb}
use Rattle.std.proofs.lemmas.List.{length-set, get_or-set_same, get_or-set_other}
use Rattle.it_number.proofs.Ring.{ring, v, plus, minus, times, nil}
use Rattle.it_rational.specs.Rational.{Rational, IsRatio}
use Rattle.it_rational.specs.Rational as Q
use Rattle.it_rational.proofs.Field.{field_ℚ}
use Rattle.it_rational.proofs.RationalLaws.{ring_ℚ}
use Rattle.it_space.specs.Rows.{Terms, value}
use Rattle.it_space.specs.Sums.{number_at}
use Rattle.it_tableau.specs.Operations.{rationals}
use Rattle.it_tableau.specs.FieldOperations.{difference}
use Rattle.it_tableau.specs.SimplexTables.{SimplexTable, FeasibilityProblem, pivot}
use Rattle.it_tableau.proofs.Kept.{pivot_row, other_row}
use Rattle.it_tableau.proofs.ViewLemmas.{same_functions}
use Rattle.it_run.specs.Choice.{entering_column, leaving_row, next, IsStuck}
use Rattle.it_run.proofs.DegenerateSteps.{IsBehind, row_moves}
use Rattle.it_engine.specs.Behind.{mixed_table, ShowsBehind}
use Rattle.it_engine.specs.PivotedRows.{AreWholeRowsPivoted}
use Rattle.it_engine.specs.Tables.{AreStartColumns, ShowsTable, whole_row_at}
use Rattle.it_whole.specs.WholeRows.{IsRow, WholeRowView}
use Rattle.it_engine.proofs.Generators.{zero_named, value_named}

-- the rows that moved, with row r
abbrev pub moved_with : (ℕ → Bool) → ℕ → ℕ → Bool
moved_with moved r q = cond (eqb q r) true (moved q)

module _ (p : FeasibilityProblem Rational) (b t : SimplexTable Rational) (columns : List Terms) (limit : ℕ) (rows : List WholeRowView)
    (basis : List ℕ) (moved : ℕ → Bool)
    (s : ShowsBehind p b t columns limit rows basis moved) (c r : ℕ) (enters : c < length columns) (row : r < length basis)
    (column_is : entering_column rationals (length basis) (length columns) t ≡ c) (row_is : leaving_row rationals (length basis) (length columns) t c ≡ r)
    (moves : ¬ (IsStuck rationals (length basis) (length columns) t)) (null : t.entry r (length columns + length basis) ≡ Q.integer (pos 0)) where
  abbrev m : ℕ
  m = length basis

  abbrev n : ℕ
  n = length columns

  -- the claims about the row and the column hold for those of the step
  to_step : (P : ℕ → ℕ → Type 0) → P r c → P (leaving_row rationals m n t (entering_column rationals m n t)) (entering_column rationals m n t)
  to_step P x = subst (λ (y : ℕ). P (leaving_row rationals m n t y) y) (sym column_is) (subst (λ (x : ℕ). P x c) (sym row_is) x)

  next_is : pivot rationals t r c ≡ next rationals m n t
  next_is = to_step (λ r' c'. pivot rationals t r c ≡ pivot rationals t r' c') refl

  behind_next : IsBehind field_ℚ m n p b (next rationals m n t) (moved_with moved r)
  behind_next = to_step (λ r' c'. (t.entry r' (n + m) ≡ Q.integer (pos 0))
      → IsBehind field_ℚ m n p b (next rationals m n t) (moved_with moved r')
      → IsBehind field_ℚ m n p b (next rationals m n t) (moved_with moved r)) (λ _ x. x)
      (to_step (λ r' c'. t.entry r' (n + m) ≡ Q.integer (pos 0)) null)
      (row_moves field_ℚ m n p b t moved s.behind moves (to_step (λ r' c'. t.entry r' (n + m) ≡ Q.integer (pos 0)) null))

  -- the rows before the pivot, where row r is brought up to date
  module _ (now : List WholeRowView) (shown : ShowsTable m n limit (mixed_table (moved_with moved r) b t) now basis) (entry : ℕ → ℤ)
      (entry_is : (i : ℕ) → i < m + 1 → moved_with moved r i ≡ true → entry i ≡ value (slice_index_or columns c []) (number_at (whole_row_at now i).numbers))
      (entry_null : (i : ℕ) → i < m + 1 → moved_with moved r i ≡ false → entry i ≡ pos 0)
      (new : List WholeRowView) (pivoted : AreWholeRowsPivoted (m + 1) limit now entry r new) where
    now_moved : (i : ℕ) → i < m + 1 → moved_with moved r i ≡ true
        → IsRow (m + 1) limit (λ k. t.entry i (n + k)) (whole_row_at now i).numbers (whole_row_at now i).denominator
    now_moved i l e = subst (λ (d : Bool). IsRow (m + 1) limit (λ k. cond d (t.entry i (n + k)) (b.entry i (n + k)))
        (whole_row_at now i).numbers (whole_row_at now i).denominator) e (shown.row i l)

    now_behind : (i : ℕ) → i < m + 1 → moved_with moved r i ≡ false
        → IsRow (m + 1) limit (λ k. b.entry i (n + k)) (whole_row_at now i).numbers (whole_row_at now i).denominator
    now_behind i l e = subst (λ (d : Bool). IsRow (m + 1) limit (λ k. cond d (t.entry i (n + k)) (b.entry i (n + k)))
        (whole_row_at now i).numbers (whole_row_at now i).denominator) e (shown.row i l)

    entry_named : (i : ℕ) → i < m + 1 → moved_with moved r i ≡ true → IsRatio (t.entry i c) (entry i) (whole_row_at now i).denominator
    entry_named i l e = subst (λ (z : ℤ). IsRatio (t.entry i c) z (whole_row_at now i).denominator) (sym (entry_is i l e))
        (let k = s.columns_are.column c enters in let w = now_moved i l e in
        subst (λ (q : Rational). IsRatio q (value (slice_index_or columns c []) (number_at (whole_row_at now i).numbers))
        (whole_row_at now i).denominator) (sym (s.behind.holds.combines i c (omega (arith, l)) ∙ k.value_is (λ k. t.entry i (n + k))))
        (value_named (slice_index_or columns c []) m (λ k. t.entry i (n + k)) (number_at (whole_row_at now i).numbers)
        (whole_row_at now i).denominator w.some k.within (λ k g. w.named k (omega (arith, g)))))

    own_moved : moved_with moved r r ≡ true
    own_moved = ap (λ d. cond d true (moved r)) (eq-eqb r r refl)

    own_row : IsRow (m + 1) limit (λ k. t.entry r (n + k)) (whole_row_at now r).numbers (whole_row_at now r).denominator
    own_row = now_moved r (omega (arith, row)) own_moved

    -- row i shows these entries after the step
    abbrev Shows : ℕ → (ℕ → Rational) → Type 0
    Shows i f = IsRow (m + 1) limit f (whole_row_at new i).numbers (whole_row_at new i).denominator

    row_shown : (i : ℕ) → i < m + 1 → Shows i (λ k. cond (moved_with moved r i) ((pivot rationals t r c).entry i (n + k)) (b.entry i (n + k)))
    row_shown i l = by_cases (cases_eq i r)
      where
        by_move : (i ≡ r → ⊥) → (d : Bool) → moved_with moved r i ≡ d → Shows i (λ k. cond d ((pivot rationals t r c).entry i (n + k)) (b.entry i (n + k)))
        by_move apart true e = subst (Shows i) (same_functions (λ k. sym (other_row field_ℚ m n t r c i (n + k) apart)))
            ((pivoted.others i (omega (arith, l, shown.rows_are)) apart).less (λ k. t.entry i (n + k)) (λ k. t.entry r (n + k))
            (t.entry i c) (t.entry r c) (now_moved i l e) own_row (entry_named i l e) (entry_named r (omega (arith, row)) own_moved))
        by_move apart false e = subst (Shows i) (same_functions (λ k. nothing_taken (b.entry i (n + k)) (t.entry r (n + k)) (Q.inverse (t.entry r c))))
            ((pivoted.others i (omega (arith, l, shown.rows_are)) apart).less (λ k. b.entry i (n + k)) (λ k. t.entry r (n + k))
            (Q.integer (pos 0)) (t.entry r c) (now_behind i l e) own_row
            (subst (λ (z : ℤ). IsRatio (Q.integer (pos 0)) z (whole_row_at now i).denominator) (sym (entry_null i l e))
            (zero_named (whole_row_at now i).denominator)) (entry_named r (omega (arith, row)) own_moved))
          where
            nothing_taken : (x y z : Rational) → difference ring_ℚ x (Q.times y (Q.times (Q.integer (pos 0)) z)) ≡ x
            nothing_taken x y z = ring ring_ℚ (x ∷ y ∷ z ∷ []) (plus (v 0) (minus (times (v 1) (times nil (v 2))))) (v 0) refl

        by_cases : (i ≡ r) ⊎ (i ≡ r → ⊥) → Shows i (λ k. cond (moved_with moved r i) ((pivot rationals t r c).entry i (n + k)) (b.entry i (n + k)))
        by_cases (inl e) = subst (λ (x : ℕ). Shows x (λ k. cond (moved_with moved r x) ((pivot rationals t r c).entry x (n + k)) (b.entry x (n + k)))) (sym e)
            (subst (Shows r) (same_functions (λ k. sym (pivot_row field_ℚ m n t r c (n + k))
            ∙ ap (λ d. cond d ((pivot rationals t r c).entry r (n + k)) (b.entry r (n + k))) (sym own_moved)))
            (pivoted.own (λ k. t.entry r (n + k)) (t.entry r c) own_row (entry_named r (omega (arith, row)) own_moved)))
        by_cases (inr d) = by_move d (moved_with moved r i) refl

    same_length : length (slice_set basis r c) ≡ m
    same_length = length-set basis r c

    basis_after : (i : ℕ) → i < m → (pivot rationals t r c).basis i ≡ slice_index_or (slice_set basis r c) i 0
    basis_after i l = by_cases (cases_eq i r)
      where
        by_cases : (i ≡ r) ⊎ (i ≡ r → ⊥) → (pivot rationals t r c).basis i ≡ slice_index_or (slice_set basis r c) i 0
        by_cases (inl e) = ap (λ b. cond b c (t.basis i)) (eq-eqb i r e) ∙ sym (get_or-set_same basis r c 0 row)
            ∙ ap (λ x. slice_index_or (slice_set basis r c) x 0) (sym e)
        by_cases (inr d) = ap (λ b. cond b c (t.basis i)) (ne_eqb i r d) ∙ s.shows.basis_is i l ∙ sym (get_or-set_other basis r i c 0 d)

    entered_after : (q : ℕ) → q < m → moved_with moved r q ≡ true → (pivot rationals t r c).basis q < n
    entered_after q l = by_test (eqb q r)
      where
        by_test : (d : Bool) → cond d true (moved q) ≡ true → cond d c (t.basis q) < n
        by_test true e = enters
        by_test false e = s.entered q l e

    cost_after : moved_with moved r m ≡ true
    cost_after = by_test (eqb m r)
      where
        by_test : (d : Bool) → cond d true (moved m) ≡ true
        by_test true = refl
        by_test false = s.cost

    shows_pivot : ShowsTable m n limit (mixed_table (moved_with moved r) b (pivot rationals t r c)) new (slice_set basis r c)
    shows_pivot = record { rows_are = pivoted.same_length ∙ shown.rows_are; basis_are = same_length; row = row_shown; basis_is = basis_after }

    pub shows_next : ShowsBehind p b (next rationals m n t) columns limit new (slice_set basis r c) (moved_with moved r)
    shows_next = record {
      norm = s.norm;
      some = s.some;
      fit = s.fit;
      behind = subst (λ (m' : ℕ). IsBehind field_ℚ m' n p b (next rationals m n t) (moved_with moved r)) (sym same_length) behind_next;
      cost = subst (λ (m' : ℕ). moved_with moved r m' ≡ true) (sym same_length) cost_after;
      entered = subst (λ (m' : ℕ). (q : ℕ) → q < m' → moved_with moved r q ≡ true → (next rationals m n t).basis q < n) (sym same_length)
          (subst (λ (u : SimplexTable Rational). (q : ℕ) → q < m → moved_with moved r q ≡ true → u.basis q < n) next_is entered_after);
      shows = subst (λ (m' : ℕ). ShowsTable m' n limit (mixed_table (moved_with moved r) b (next rationals m n t)) new (slice_set basis r c)) (sym same_length)
          (subst (λ (u : SimplexTable Rational). ShowsTable m n limit (mixed_table (moved_with moved r) b u) new (slice_set basis r c)) next_is shows_pivot);
      columns_are = subst (λ (m' : ℕ). AreStartColumns m' n s.norm p columns) (sym same_length) s.columns_are;
    }
