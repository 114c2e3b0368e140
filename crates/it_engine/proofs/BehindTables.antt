-- A table of which the engine has some rows as they were in an earlier table, by its numbers.
use Rattle.std.proofs.Common.{◌≡◌, ◌⊎◌, inl, inr, ℕ, ◌+◌, ◌*◌, ◌-◌, ◌<◌, ◌≤◌, ◌^◌, Bool, true, false, cond, not, ℤ, pos, ◌+ℤ◌, ◌*ℤ◌, neg_ℤ, unsigned_abs, List, [], length, slice_index_or, refl, sym, ap, subst, ◌∙◌, arith, mul-pos}
use Rattle.std.proofs.lemmas.Bool.{true≢false, cases_eq, cases_lt, lt-ltb, le-ltb, not-true}
use Rattle.std.proofs.lemmas.Int.{ints, unsigned_abs-mul}
use Rattle.std.proofs.lemmas.Nat.{mul-le}
use Rattle.it_number.proofs.IntegerRing.{ring_ℤ}
use Rattle.it_rational.specs.Rational.{Rational, sign_least, is_at_least_zero, IsRatio}
use Rattle.it_rational.specs.Rational as Q
use Rattle.it_rational.proofs.Field.{field_ℚ}
use Rattle.it_rational.proofs.RationalLaws.{ring_ℚ}
use Rattle.it_fraction.proofs.ZeroLemmas.{zero_parts}
use Rattle.it_space.specs.Rows.{Terms, value, row_mass}
use Rattle.it_space.specs.Sums.{number_at}
use Rattle.it_tableau.specs.Operations.{rationals}
use Rattle.it_tableau.specs.FieldOperations.{sum_to}
use Rattle.it_tableau.specs.SimplexTables.{SimplexTable, FeasibilityProblem, start_row}
use Rattle.it_tableau.specs.Invariants.{CombinesStart}
use Rattle.it_run.specs.Choice.{entering_column, leaving_row, is_candidate, IsStuck}
use Rattle.it_run.proofs.Behind.{row_behind}
use Rattle.it_run.proofs.BlandRule.{entering_is, some_column}
use Rattle.it_run.specs.Solving.{StepFits}
use Rattle.it_run.proofs.Still.{IsFirstStill, first_still_leaves}
use Rattle.it_run.proofs.SearchLemmas.{first_false_agrees}
use Rattle.it_run.proofs.RunSteps.{stuck_without_entering, not_stuck_with_entering}
use Rattle.it_engine.specs.Behind.{mixed_table, share_sum, BoundsShares, ShowsBehind}
use Rattle.it_engine.specs.Choosing.{first_negative_cost, is_above_zero}
use Rattle.it_engine.specs.Loading.{IsNorm}
use Rattle.it_vectors.specs.Sizes.{AreAtMost, IsShort}
use Rattle.it_whole.specs.WholeRows.{WholeRowView}
use Rattle.it_engine.specs.Tables.{IsTableOver, whole_row_at}
use Rattle.it_engine.proofs.Generators.{table_is_over, number, denominator, price_named, value_bounded}
use Rattle.it_engine.proofs.NoWide as W
use Rattle.it_engine.proofs.NamedBehind.{difference_is_named, sum_is_bounded}
use Rattle.it_whole.proofs.Names.{sign_named, minus_names, null_named, number_null}

module _ (p : FeasibilityProblem Rational) (b t : SimplexTable Rational) (columns : List Terms) (limit : ℕ) (rows : List WholeRowView)
    (basis : List ℕ) (moved : ℕ → Bool)
    (s : ShowsBehind p b t columns limit rows basis moved) where
  abbrev m : ℕ
  m = length basis

  abbrev n : ℕ
  n = length columns

  abbrev mixed : SimplexTable Rational
  mixed = mixed_table moved b t

  pub mixed_combines : CombinesStart rationals m n p mixed
  mixed_combines i j hi = by_move (moved i)
    where
      by_move : (d : Bool) → cond d (t.entry i j) (b.entry i j)
          ≡ sum_to ring_ℚ m (λ k. Q.times (cond d (t.entry i (n + k)) (b.entry i (n + k))) (start_row rationals m n p k j))
      by_move true = s.behind.holds.combines i j hi
      by_move false = s.behind.base.combines i j hi

  -- the numbers that the rows represent at all columns
  abbrev pub number_now : ℕ → ℕ → ℤ
  number_now = number m n limit s.norm p mixed columns rows basis mixed_combines s.shows s.columns_are s.fit s.some

  abbrev pub denominator_now : ℕ → ℕ
  denominator_now = denominator m n limit s.norm p mixed columns rows basis mixed_combines s.shows s.columns_are s.fit s.some

  pub mixed_is_over : IsTableOver m n mixed number_now denominator_now
  mixed_is_over = table_is_over m n limit s.norm p mixed columns rows basis mixed_combines s.shows s.columns_are s.fit s.some

  pub moved_named : (i j : ℕ) → i ≤ m → j ≤ n + m → moved i ≡ true → IsRatio (t.entry i j) (number_now i j) (denominator_now i)
  moved_named i j hi hj e = subst (λ (d : Bool). IsRatio (cond d (t.entry i j) (b.entry i j)) (number_now i j) (denominator_now i))
      e (mixed_is_over.named i j hi hj)

  pub base_named : (i j : ℕ) → i ≤ m → j ≤ n + m → moved i ≡ false → IsRatio (b.entry i j) (number_now i j) (denominator_now i)
  base_named i j hi hj e = subst (λ (d : Bool). IsRatio (cond d (t.entry i j) (b.entry i j)) (number_now i j) (denominator_now i))
      e (mixed_is_over.named i j hi hj)

  pub right_named : (i : ℕ) → i < m → IsRatio (t.entry i (n + m)) (number_at (whole_row_at rows i).numbers m) (denominator_now i)
  right_named i hi = by_move (moved i) ((s.shows.row i (omega (arith, hi))).named m (omega arith))
    where
      by_move : (d : Bool) → IsRatio (cond d (t.entry i (n + m)) (b.entry i (n + m))) (number_at (whole_row_at rows i).numbers m)
          (denominator_now i) → IsRatio (t.entry i (n + m)) (number_at (whole_row_at rows i).numbers m) (denominator_now i)
      by_move true r = r
      by_move false r = subst (λ (q : Rational). IsRatio q (number_at (whole_row_at rows i).numbers m) (denominator_now i)) (sym (s.behind.rights i hi)) r

  -- a row that stays behind isn't the cost row
  pub behind_below : (i : ℕ) → i ≤ m → moved i ≡ false → i < m
  behind_below i hi e = by_cases (cases_eq i m)
    where
      by_cases : (i ≡ m) ⊎ (i ≡ m → ⊥) → i < m
      by_cases (inl q) = absurd (true≢false (sym s.cost ∙ ap moved (sym q) ∙ e))
      by_cases (inr d) = omega (arith, hi, d)

  pub basic_within : (q : ℕ) → q < m → t.basis q ≤ n + m
  basic_within q l = by_cases (s.behind.holds.own q l)
    where
      by_cases : (t.basis q < n) ⊎ (t.basis q ≡ n + q) → t.basis q ≤ n + m
      by_cases (inl h) = omega (arith, h)
      by_cases (inr h) = omega (arith, h, l)

  -- the column that enters
  pub entering_behind : entering_column rationals m n t ≡ first_negative_cost columns (whole_row_at rows m).numbers
  entering_behind = first_false_agrees (λ j. is_at_least_zero (t.entry m j))
      (λ j. sign_least (value (slice_index_or columns j []) (number_at (whole_row_at rows m).numbers))) 0 n
      (λ j h k. cost_sign j (omega arith))
    where
      cost_sign : (j : ℕ) → j < n → is_at_least_zero (t.entry m j) ≡ sign_least (value (slice_index_or columns j []) (number_at (whole_row_at rows m).numbers))
      cost_sign j l = sign_named (t.entry m j) (value (slice_index_or columns j []) (number_at (whole_row_at rows m).numbers))
          (whole_row_at rows m).denominator (s.shows.row m (omega arith)).some
          (subst (λ (d : Bool). IsRatio (cond d (t.entry m j) (b.entry m j))
          (value (slice_index_or columns j []) (number_at (whole_row_at rows m).numbers)) (whole_row_at rows m).denominator) s.cost
          (price_named m n limit s.norm p mixed columns rows basis mixed_combines s.shows s.columns_are s.fit s.some m j (omega arith) l))

  pub stuck_behind : first_negative_cost columns (whole_row_at rows m).numbers ≡ n → IsStuck rationals m n t
  stuck_behind e = stuck_without_entering m n t (entering_behind ∙ e)

  pub moves_behind : (c : ℕ) → c < n → first_negative_cost columns (whole_row_at rows m).numbers ≡ c → ¬ (IsStuck rationals m n t)
  moves_behind c h e = not_stuck_with_entering m n t c record { within = h; is = entering_behind ∙ e }

  module _ (multiple : ℕ) (share : ℕ → ℕ) (whole : 0 < multiple) (e_share : (q : ℕ) → q < m → moved q ≡ true → denominator_now q * share q ≡ multiple) where
    -- the number of row i at column j, over its denominator times the common multiple where it stays behind
    abbrev pub behind_sum : ℕ → ℕ → ℤ
    behind_sum i j = sum_to ring_ℤ m (λ q. cond (moved q) ((number_now i (t.basis q) *ℤ number_now q j) *ℤ pos (share q)) (pos 0))

    abbrev pub true_number : ℕ → ℕ → ℤ
    true_number i j = cond (moved i) (number_now i j) (number_now i j *ℤ pos multiple +ℤ neg_ℤ (behind_sum i j))

    abbrev pub true_denominator : ℕ → ℕ
    true_denominator i = cond (moved i) (denominator_now i) (denominator_now i * multiple)

    pub true_some : (i : ℕ) → i ≤ m → 0 < true_denominator i
    true_some i hi = by_move (moved i)
      where
        by_move : (d : Bool) → 0 < cond d (denominator_now i) (denominator_now i * multiple)
        by_move true = mixed_is_over.some i hi
        by_move false = mul-pos (mixed_is_over.some i hi) whole

    pub true_named : (i j : ℕ) → i ≤ m → j ≤ n + m → IsRatio (t.entry i j) (true_number i j) (true_denominator i)
    true_named i j hi hj = by_move (moved i) refl
      where
        by_move : (d : Bool) → moved i ≡ d → IsRatio (t.entry i j) (cond d (number_now i j)
            (number_now i j *ℤ pos multiple +ℤ neg_ℤ (behind_sum i j))) (cond d (denominator_now i) (denominator_now i * multiple))
        by_move true e = moved_named i j hi hj e
        by_move false e = subst (λ (q : Rational). IsRatio q (number_now i j *ℤ pos multiple +ℤ neg_ℤ (behind_sum i j)) (denominator_now i * multiple))
            (sym (row_behind field_ℚ m n p b t s.behind.base s.behind.holds moved s.behind.same i j (behind_below i hi e) e))
            (difference_is_named m (denominator_now i) multiple (mixed_is_over.some i hi) whole moved (λ q. b.entry i (t.basis q))
            (λ q. t.entry q j) (λ q. number_now i (t.basis q)) (λ q. number_now q j) denominator_now share
            (λ q l. base_named i (t.basis q) hi (basic_within q l) e)
            (λ q l f. moved_named q j (omega (arith, l)) hj f)
            (λ q l f. mixed_is_over.some q (omega (arith, l)))
            e_share
            (b.entry i j) (number_now i j) (base_named i j hi hj e))

    module _ (norm most shares : ℕ) (is_norm : IsNorm columns norm)
        (base_most : (i : ℕ) → i < m → moved i ≡ false → AreAtMost (whole_row_at rows i).numbers most)
        (bounds : BoundsShares norm rows moved share m shares)
        (low : (i : ℕ) → i < m → moved i ≡ false → denominator_now i * multiple < 2 ^ 63)
        (fits : norm * most * multiple + norm * most * shares < 2 ^ 63) where
      -- at all columns, where a bound on the row's numbers is given
      number_bounded : (i j l : ℕ) → i ≤ m → j ≤ n + m → AreAtMost (whole_row_at rows i).numbers l → unsigned_abs (number_now i j) ≤ norm * l
      number_bounded i j l hi hj h = by_column (cases_lt j n)
        where
          numbers_length : length (whole_row_at rows i).numbers ≡ m + 1
          numbers_length = (s.shows.row i (omega (arith, hi))).length_is

          by_column : (j < n) ⊎ (n ≤ j) → unsigned_abs (number_now i j) ≤ norm * l
          by_column (inl k) = subst (λ (d : Bool). unsigned_abs (cond d
              (value (slice_index_or columns j []) (number_at (whole_row_at rows i).numbers))
              (number_at (whole_row_at rows i).numbers (j - n))) ≤ norm * l) (sym (lt-ltb j n k))
              (let c = value_bounded (slice_index_or columns j []) m (number_at (whole_row_at rows i).numbers) l
              (s.columns_are.column j k).within (λ a b. h a (omega (arith, b, numbers_length))) in
              let w = mul-le (row_mass (slice_index_or columns j [])) l norm l (is_norm.bounds j k) (omega arith) in omega (arith, c, w))
          by_column (inr k) = subst (λ (d : Bool). unsigned_abs (cond d
              (value (slice_index_or columns j []) (number_at (whole_row_at rows i).numbers))
              (number_at (whole_row_at rows i).numbers (j - n))) ≤ norm * l) (sym (le-ltb j n k))
              (let c = h (j - n) (omega (arith, hj, k, numbers_length)) in
              let w : 1 * l ≤ norm * l = mul-le 1 l norm l is_norm.some (omega arith) in omega (arith, c, w))

      behind_short : (i j : ℕ) → i < m → j ≤ n + m → moved i ≡ false → IsShort (number_now i j *ℤ pos multiple +ℤ neg_ℤ (behind_sum i j))
      behind_short i j hi hj e =
          difference_short (number_now i j *ℤ pos multiple) (behind_sum i j) (norm * most * multiple) (norm * most * shares)
          (product_at_most (number_now i j) multiple (norm * most) (number_bounded i j most (omega (arith, hi)) hj (base_most i hi e)))
          (let b = sum_is_bounded m (denominator_now i) multiple (mixed_is_over.some i (omega (arith, hi))) whole moved
          (λ q. b.entry i (t.basis q)) (λ q. t.entry q j) (λ q. number_now i (t.basis q)) (λ q. number_now q j) denominator_now share
          (λ q l. base_named i (t.basis q) (omega (arith, hi)) (basic_within q l) e)
          (λ q l f. moved_named q j (omega (arith, l)) hj f)
          (λ q l f. mixed_is_over.some q (omega (arith, l)))
          e_share
          (norm * most) (λ q. unsigned_abs (number_now q j)) (λ q l f. number_bounded i (t.basis q) most (omega (arith, hi))
          (basic_within q l) (base_most i hi e)) (λ q l f. omega arith) m (omega arith) in
          let w = mul-le (norm * most) (share_sum moved (λ q. unsigned_abs (number_now q j)) share m) (norm * most) shares (omega arith)
          (bounds (λ q. number_now q j) (λ q l f k h. number_bounded q j k (omega (arith, l)) hj h)) in
          omega (arith, b, w))
          fits
        where
          product_at_most : (z : ℤ) (k l : ℕ) → unsigned_abs z ≤ l → unsigned_abs (z *ℤ pos k) ≤ l * k
          product_at_most z k l h = subst (λ w. w ≤ l * k) (sym (unsigned_abs-mul z (pos k))) (mul-le (unsigned_abs z) k l k h (omega arith))

          difference_short : (x y : ℤ) (k l : ℕ) → unsigned_abs x ≤ k → unsigned_abs y ≤ l → k + l < 2 ^ 63 → IsShort (x +ℤ neg_ℤ y)
          difference_short x y k l hx hy h = omega (arith, ints, hx, hy, h)

      -- all numbers of the table are short, those of the rows that stay behind too, though they aren't formed
      pub table_is_short : IsTableOver m n t true_number true_denominator
      table_is_short = record {
        some = true_some;
        low = λ i hi. low_by_move i hi (moved i) refl;
        named = true_named;
        short = λ i j hi hj. short_by_move i j hi hj (moved i) refl;
      }
        where
          low_by_move : (i : ℕ) → i ≤ m → (d : Bool) → moved i ≡ d → cond d (denominator_now i) (denominator_now i * multiple) < 2 ^ 63
          low_by_move i hi true e = mixed_is_over.low i hi
          low_by_move i hi false e = low i (behind_below i hi e) e

          short_by_move : (i j : ℕ) → i ≤ m → j ≤ n + m → (d : Bool) → moved i ≡ d
              → IsShort (cond d (number_now i j) (number_now i j *ℤ pos multiple +ℤ neg_ℤ (behind_sum i j)))
          short_by_move i j hi hj true e = mixed_is_over.short i j hi hj
          short_by_move i j hi hj false e = behind_short i j (behind_below i hi e) hj e

    module _ (c r : ℕ) (enters : c < n) (column_is : first_negative_cost columns (whole_row_at rows m).numbers ≡ c) (row : r < m)
        (still : number_at (whole_row_at rows r).numbers m ≡ pos 0) (above : is_above_zero (true_number r c) ≡ true)
        (first : (i : ℕ) → i < m → number_at (whole_row_at rows i).numbers m ≡ pos 0 → is_above_zero (true_number i c) ≡ true
        → slice_index_or basis r 0 ≤ slice_index_or basis i 0) where
      pub column_enters : entering_column rationals m n t ≡ c
      column_enters = entering_behind ∙ column_is

      above_named : (i : ℕ) → i ≤ m → is_candidate rationals t c i ≡ is_above_zero (true_number i c)
      above_named i hi = ap not (sign_named (Q.minus (t.entry i c)) (neg_ℤ (true_number i c)) (true_denominator i) (true_some i hi)
          (minus_names (t.entry i c) (true_number i c) (true_denominator i) (true_named i c hi (omega (arith, enters)))))

      pub right_is_null : t.entry r (n + m) ≡ Q.integer (pos 0)
      right_is_null = null_named (t.entry r (n + m)) (denominator_now r) (mixed_is_over.some r (omega (arith, row)))
          (subst (λ (z : ℤ). IsRatio (t.entry r (n + m)) z (denominator_now r)) still (right_named r row))

      pub row_is_candidate : is_candidate rationals t c r ≡ true
      row_is_candidate = above_named r (omega (arith, row)) ∙ above

      first_still : IsFirstStill field_ℚ m n p t c r s.behind.holds
      first_still = record {
        row = row;
        still = right_is_null;
        above = not-true (is_at_least_zero (Q.minus (t.entry r c))) row_is_candidate;
        first = λ i l e a. subst (λ k. k ≤ t.basis i) (sym (s.shows.basis_is r row)) (subst (λ k. slice_index_or basis r 0 ≤ k) (sym (s.shows.basis_is i l))
            (first i l (number_null (number_at (whole_row_at rows i).numbers m) (t.entry i (n + m)) (denominator_now i) (right_named i l)
            (ap (λ (q : Rational). q.num) e ∙ zero_parts.0))
            (sym (above_named i (omega (arith, l))) ∙ ap not a)));
      }

      pub row_leaves : leaving_row rationals m n t c ≡ r
      row_leaves = first_still_leaves field_ℚ m n p t c r s.behind.holds
          (subst (λ (k : ℕ). is_at_least_zero (t.entry m k) ≡ false) column_enters
          (entering_is field_ℚ m n t (some_column field_ℚ m n t (moves_behind c enters column_is))).below)
          first_still

      pub step_is : (P : ℕ → ℕ → Type 0) → P r c → P (leaving_row rationals m n t (entering_column rationals m n t)) (entering_column rationals m n t)
      step_is P x = subst (λ (y : ℕ). P (leaving_row rationals m n t y) y) (sym column_enters) (subst (λ (x : ℕ). P x c) (sym row_leaves) x)

      pub step_fits_behind : IsTableOver m n t true_number true_denominator → StepFits m n t
      step_fits_behind o = W.step_fits m n t true_number true_denominator o (step_is (λ r c. r < m) row) (step_is (λ r c. c < n) enters)
          (step_is (λ r c. is_candidate rationals t c r ≡ true) row_is_candidate)
