-- The engine's choice is that of the run, and its step shows the next table.
use Rattle.std.proofs.Common.{◌≡◌, ◌⊎◌, inl, inr, ℕ, zero, suc, ◌+◌, ◌<◌, ◌≤◌, Bool, true, false, cond, ℤ, pos, negsuc, ◌≤ℤ◌, Option, Some, None, List, [], length, slice_index_or, slice_set, refl, sym, ap, subst, ◌∙◌, arith}
use Rattle.std.proofs.lemmas.Bool.{cases_eq, eq-eqb, ne_eqb, true≢false}
use Rattle.std.proofs.lemmas.Int.{ints}
use Rattle.std.proofs.lemmas.List.{get_or-set_same, get_or-set_other, length-set}
use Rattle.it_rational.specs.Rational.{Rational, sign_least, is_at_least_zero, IsRatio}
use Rattle.it_rational.specs.Rational as Q
use Rattle.it_rational.proofs.RationalLaws.{ring_ℚ}
use Rattle.it_rational.proofs.Field.{field_ℚ}
use Rattle.it_space.specs.Rows.{Terms, value}
use Rattle.it_tableau.specs.Operations.{rationals}
use Rattle.it_tableau.specs.FieldOperations.{difference}
use Rattle.it_tableau.specs.Invariants.{HasInvariants}
use Rattle.it_tableau.specs.SimplexTables.{SimplexTable, FeasibilityProblem, pivot}
use Rattle.it_run.specs.Choice.{entering_column, leaving_row, is_candidate, next, IsStuck}
use Rattle.it_run.specs.Solving.{StepFits}
use Rattle.it_run.proofs.RunLemmas.{next_holds}
use Rattle.it_run.proofs.RunSteps.{stuck_without_entering, not_stuck_with_entering}
use Rattle.it_engine.specs.Choosing.{is_above_zero, first_negative_cost, best_row_below, best_row, comes_first, entry_of, right_side_of, basic_column_at, best_after_row}
use Rattle.it_engine.specs.Engine.{IsSafe, Represents, IsStepMade}
use Rattle.it_engine.specs.PivotedRows.{AreWholeRowsPivoted, IsFitting}
use Rattle.it_whole.specs.WholeRows.{IsUsable, WholeRowView, IsRow}
use Rattle.it_space.specs.Sums.{number_at}
use Rattle.it_engine.specs.Tables.{whole_row_at, AreStartColumns, ShowsTable}
use Rattle.it_run.proofs.SearchLemmas.{first_false_agrees}
use Rattle.it_engine.proofs.Choices.{best_row_leaves, IsBestRowBelow}
use Rattle.it_engine.proofs.Generators.{table_is_over, price_named, number, denominator}
use Rattle.it_engine.proofs.NoWide as W
use Rattle.it_whole.proofs.Names.{sign_named}

-- the row, if there is one, has an entry above 0
abbrev IfAbove : (ℕ → ℤ) → Option ℕ → Type 0
IfAbove entry None = Unit {0}
IfAbove entry (Some k) = is_above_zero (entry k) ≡ true

-- the best row has an entry above 0
pub best_above : (entry right : ℕ → ℤ) (basis : ℕ → ℕ) (i r : ℕ) → best_row_below entry right basis i ≡ Some r → is_above_zero (entry r) ≡ true
best_above entry right basis i r e = subst (λ (o : Option ℕ). IfAbove entry o) e (best_is_above i)
  where
    best_is_above : (i : ℕ) → IfAbove entry (best_row_below entry right basis i)
    best_is_above zero = tt
    best_is_above (suc i) = by_option (best_row_below entry right basis i) (is_above_zero (entry i)) refl (best_is_above i)
      where
        by_option : (o : Option ℕ) (b : Bool) → is_above_zero (entry i) ≡ b → IfAbove entry o → IfAbove entry (best_after_row entry right basis i o)
        by_option None false f a = subst (λ (b : Bool). IfAbove entry (cond b (Some i) None)) (sym f) tt
        by_option None true f a = subst (λ (b : Bool). IfAbove entry (cond b (Some i) None)) (sym f) f
        by_option (Some k) false f a = subst (λ (b : Bool). IfAbove entry (cond b
            (cond (comes_first (right i) (entry i) (basis i) (right k) (entry k) (basis k)) (Some i) (Some k)) (Some k))) (sym f) a
        by_option (Some k) true f a = subst (λ (b : Bool). IfAbove entry (cond b
            (cond (comes_first (right i) (entry i) (basis i) (right k) (entry k) (basis k)) (Some i) (Some k)) (Some k))) (sym f)
            (by_order_test (comes_first (right i) (entry i) (basis i) (right k) (entry k) (basis k)))
          where
            by_order_test : (d : Bool) → IfAbove entry (cond d (Some i) (Some k))
            by_order_test true = f
            by_order_test false = a

pub above_one : (z : ℤ) → is_above_zero z ≡ true → pos 1 ≤ℤ z
above_one (pos zero) e = absurd (true≢false (sym e))
above_one (pos (suc n)) e = omega (arith, ints)
above_one (negsuc n) e = absurd (true≢false (sym e))

module _ (p : FeasibilityProblem Rational) (t : SimplexTable Rational) (columns : List Terms) (limit : ℕ) (rows : List WholeRowView)
    (basis : List ℕ) (s : Represents p t columns limit rows basis) where
  cost_sign : (j : ℕ) → j < length columns → is_at_least_zero (t.entry (length basis) j)
      ≡ sign_least (value (slice_index_or columns j []) (number_at (whole_row_at rows (length basis)).numbers))
  cost_sign j l = sign_named (t.entry (length basis) j) (value (slice_index_or columns j [])
      (number_at (whole_row_at rows (length basis)).numbers)) (whole_row_at rows (length basis)).denominator
      (s.shows.row (length basis) (omega arith)).some
      (price_named (length basis) (length columns) limit s.norm p t columns rows basis s.holds.combines s.shows s.columns_are s.fit s.some
      (length basis) j (omega arith) l)

  entry_named : (i c : ℕ) → i ≤ length basis → c < length columns
      → IsRatio (t.entry i c) (value (slice_index_or columns c []) (number_at (whole_row_at rows i).numbers)) (whole_row_at rows i).denominator
  entry_named i c l h = price_named (length basis) (length columns) limit s.norm p t columns rows basis s.holds.combines s.shows
      s.columns_are s.fit s.some i c l h

  -- the column that enters
  pub entering_same : entering_column rationals (length basis) (length columns) t ≡ first_negative_cost columns (whole_row_at rows (length basis)).numbers
  entering_same = first_false_agrees (λ j. is_at_least_zero (t.entry (length basis) j))
      (λ j. sign_least (value (slice_index_or columns j []) (number_at (whole_row_at rows (length basis)).numbers))) 0 (length columns)
      (λ j a b. cost_sign j (omega arith))

  pub stuck_here : first_negative_cost columns (whole_row_at rows (length basis)).numbers ≡ length columns → IsStuck rationals (length basis) (length columns) t
  stuck_here e = stuck_without_entering (length basis) (length columns) t (entering_same ∙ e)

  -- the row that leaves
  pub leaving_same : (c r : ℕ) → c < length columns → best_row (slice_index_or columns c []) rows basis (length basis) ≡ Some r
      → (leaving_row rationals (length basis) (length columns) t c ≡ r) × (r < length basis) × (is_candidate rationals t c r ≡ true)
  leaving_same c r h e = subst (λ (o : Option ℕ). IsBestRowBelow (length basis) (length columns) t c (length basis) o) e
      (best_row_leaves (length basis) (length columns) t c (entry_of (slice_index_or columns c []) rows) (right_side_of (length basis) rows)
      (λ i. (whole_row_at rows i).denominator) (basic_column_at basis)
      (λ i l. (s.shows.row i (omega (arith, l))).some)
      (λ i l. entry_named i c (omega (arith, l)) h)
      (λ i l. (s.shows.row i (omega (arith, l))).named (length basis) (omega arith))
      (λ i l. s.shows.basis_is i l))

  module _ (c r : ℕ) (hc : c < length columns) (ec : first_negative_cost columns (whole_row_at rows (length basis)).numbers ≡ c)
      (er : best_row (slice_index_or columns c []) rows basis (length basis) ≡ Some r) where
    column_enters : entering_column rationals (length basis) (length columns) t ≡ c
    column_enters = entering_same ∙ ec

    row_leaves : (leaving_row rationals (length basis) (length columns) t c ≡ r) × (r < length basis) × (is_candidate rationals t c r ≡ true)
    row_leaves = leaving_same c r hc er

    -- the claims about the row and the column hold for those of the step
    to_step : (P : ℕ → ℕ → Type 0) → P r c → P (leaving_row rationals (length basis) (length columns) t
        (entering_column rationals (length basis) (length columns) t)) (entering_column rationals (length basis) (length columns) t)
    to_step P x = subst (λ (y : ℕ). P (leaving_row rationals (length basis) (length columns) t y) y) (sym column_enters)
        (subst (λ (x : ℕ). P x c) (sym row_leaves.0) x)

    pub moves_here : ¬ (IsStuck rationals (length basis) (length columns) t)
    moves_here = not_stuck_with_entering (length basis) (length columns) t c record { within = hc; is = column_enters }

    pub fits_here : StepFits (length basis) (length columns) t
    fits_here = W.step_fits (length basis) (length columns) t
        (number (length basis) (length columns) limit s.norm p t columns rows basis s.holds.combines s.shows s.columns_are s.fit s.some)
        (denominator (length basis) (length columns) limit s.norm p t columns rows basis s.holds.combines s.shows s.columns_are s.fit s.some)
        (table_is_over (length basis) (length columns) limit s.norm p t columns rows basis s.holds.combines s.shows s.columns_are s.fit s.some)
        (to_step (λ r c. r < length basis) row_leaves.1) (to_step (λ r c. c < length columns) hc)
        (to_step (λ r c. is_candidate rationals t c r ≡ true) row_leaves.2)

    pub next_is : pivot rationals t r c ≡ next rationals (length basis) (length columns) t
    next_is = to_step (λ r' c'. pivot rationals t r c ≡ pivot rationals t r' c') refl

    -- the new rows show the table after the pivot
    pub shows_pivot : (new : List WholeRowView) → AreWholeRowsPivoted (length rows) limit rows (entry_of (slice_index_or columns c []) rows) r new
        → ShowsTable (length basis) (length columns) limit (pivot rationals t r c) new (slice_set basis r c)
    shows_pivot new a = record {
      rows_are = a.same_length ∙ s.shows.rows_are;
      basis_are = length-set basis r c;
      row = λ i l. row_shown i l (cases_eq i r);
      basis_is = λ i l. basis_after i l (cases_eq i r);
    }
      where
        leaving_row_is : IsRow (length basis + 1) limit (λ k. t.entry r (length columns + k)) (whole_row_at rows r).numbers (whole_row_at rows r).denominator
        leaving_row_is = s.shows.row r (omega (arith, row_leaves.1))

        row_shown : (i : ℕ) → i < length basis + 1 → (i ≡ r) ⊎ (i ≡ r → ⊥)
            → IsRow (length basis + 1) limit (λ k. (pivot rationals t r c).entry i (length columns + k)) (whole_row_at new i).numbers
            (whole_row_at new i).denominator
        row_shown i l (inl e) = subst (λ (x : ℕ). IsRow (length basis + 1) limit (λ k. (pivot rationals t r c).entry x (length columns + k))
            (whole_row_at new x).numbers (whole_row_at new x).denominator) (sym e)
            (subst (λ (b : Bool). IsRow (length basis + 1) limit
            (λ k. cond b (Q.times (t.entry r (length columns + k)) (Q.inverse (t.entry r c)))
            (difference ring_ℚ (t.entry r (length columns + k)) (Q.times (t.entry r (length columns + k))
            (Q.times (t.entry r c) (Q.inverse (t.entry r c))))))
            (whole_row_at new r).numbers (whole_row_at new r).denominator) (sym (eq-eqb r r refl))
            (subst (λ (w : ℕ). IsRow w limit (λ k. Q.times (t.entry r (length columns + k)) (Q.inverse (t.entry r c)))
            (whole_row_at new r).numbers (whole_row_at new r).denominator) s.shows.rows_are
            (a.own (λ k. t.entry r (length columns + k)) (t.entry r c)
            (subst (λ (w : ℕ). IsRow w limit (λ k. t.entry r (length columns + k)) (whole_row_at rows r).numbers
            (whole_row_at rows r).denominator) (sym s.shows.rows_are) leaving_row_is)
            (entry_named r c (omega (arith, row_leaves.1)) hc))))
        row_shown i l (inr d) =
            (subst (λ (b : Bool). IsRow (length basis + 1) limit
            (λ k. cond b (Q.times (t.entry r (length columns + k)) (Q.inverse (t.entry r c)))
            (difference ring_ℚ (t.entry i (length columns + k)) (Q.times (t.entry r (length columns + k))
            (Q.times (t.entry i c) (Q.inverse (t.entry r c))))))
            (whole_row_at new i).numbers (whole_row_at new i).denominator) (sym (ne_eqb i r d))
            (subst (λ (w : ℕ). IsRow w limit (λ k. difference ring_ℚ (t.entry i (length columns + k))
            (Q.times (t.entry r (length columns + k)) (Q.times (t.entry i c) (Q.inverse (t.entry r c))))) (whole_row_at new i).numbers
            (whole_row_at new i).denominator) s.shows.rows_are
            ((a.others i (omega (arith, l, s.shows.rows_are)) d).less (λ k. t.entry i (length columns + k))
            (λ k. t.entry r (length columns + k)) (t.entry i c) (t.entry r c)
            (subst (λ (w : ℕ). IsRow w limit (λ k. t.entry i (length columns + k)) (whole_row_at rows i).numbers
            (whole_row_at rows i).denominator) (sym s.shows.rows_are) (s.shows.row i l))
            (subst (λ (w : ℕ). IsRow w limit (λ k. t.entry r (length columns + k)) (whole_row_at rows r).numbers
            (whole_row_at rows r).denominator) (sym s.shows.rows_are) leaving_row_is)
            (entry_named i c (omega (arith, l)) hc) (entry_named r c (omega (arith, row_leaves.1)) hc))))

        basis_after : (i : ℕ) → i < length basis → (i ≡ r) ⊎ (i ≡ r → ⊥) → (pivot rationals t r c).basis i ≡ slice_index_or (slice_set basis r c) i 0
        basis_after i l (inl e) = ap (λ b. cond b c (t.basis i)) (eq-eqb i r e) ∙ sym (get_or-set_same basis r c 0 row_leaves.1)
            ∙ ap (λ x. slice_index_or (slice_set basis r c) x 0) (sym e)
        basis_after i l (inr d) = ap (λ b. cond b c (t.basis i)) (ne_eqb i r d) ∙ s.shows.basis_is i l ∙ sym (get_or-set_other basis r i c 0 d)

    pub step_is_made : (new : List WholeRowView) → AreWholeRowsPivoted (length rows) limit rows
        (entry_of (slice_index_or columns c []) rows) r new → IsStepMade p t columns limit basis new (slice_set basis r c)
    step_is_made new a = record {
      moves = moves_here;
      fits = fits_here;
      stands = record {
        norm = s.norm;
        some = s.some;
        fit = s.fit;
        holds = subst (λ (m : ℕ). HasInvariants rationals m (length columns) p (next rationals (length basis) (length columns) t))
            (sym same_length) (next_holds field_ℚ (length basis) (length columns) p t s.holds moves_here);
        shows = subst (λ (m : ℕ). ShowsTable m (length columns) limit (next rationals (length basis) (length columns) t) new
            (slice_set basis r c)) (sym same_length)
            (subst (λ (t : SimplexTable Rational). ShowsTable (length basis) (length columns) limit t new (slice_set basis r c)) next_is (shows_pivot new a));
        columns_are = subst (λ (m : ℕ). AreStartColumns m (length columns) s.norm p columns) (sym same_length) s.columns_are;
      };
    }
      where
        same_length : length (slice_set basis r c) ≡ length basis
        same_length = length-set basis r c

-- the step keeps the engine's parts in agreement
pub engine_kept : (columns : List Terms) (limit : ℕ) (rows new : List WholeRowView) (basis : List ℕ) (entry : ℕ → ℤ) (r c : ℕ)
    → r < length basis → IsSafe columns limit rows basis
    → AreWholeRowsPivoted (length rows) limit rows entry r new → IsSafe columns limit new (slice_set basis r c)
engine_kept columns limit rows new basis entry r c h e a = record {
  rows_are = a.same_length ∙ e.rows_are ∙ ap (λ k. k + 1) (sym (length-set basis r c));
  usable = λ i l. subst (λ (w : ℕ). IsUsable w limit (whole_row_at new i)) (sym a.same_length) (by_cases i (omega (arith, l, a.same_length)) (cases_eq i r));
  fitting = λ j l. subst (λ (w : ℕ). IsFitting w limit (slice_index_or columns j [])) (sym a.same_length) (e.fitting j l);
  limit_is = e.limit_is;
}
  where
    by_cases : (i : ℕ) → i < length rows → (i ≡ r) ⊎ (i ≡ r → ⊥) → IsUsable (length rows) limit (whole_row_at new i)
    by_cases i l (inl q) = subst (λ (x : ℕ). IsUsable (length rows) limit (whole_row_at new x)) (sym q) a.own_usable
    by_cases i l (inr d) = (a.others i l d).usable
