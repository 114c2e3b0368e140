-- A row that stayed behind is brought up to date row by row: of each row that moved, the multiple is subtracted that makes the entry at
-- its basic column 0.
use Rattle.std.proofs.Common.{◌≡◌, ℕ, zero, suc, ◌+◌, ◌*◌, ◌<◌, ◌≤◌, Bool, true, false, cond, ℤ, pos, ◌*ℤ◌, List, [], ◌∷◌, length, slice_index_or, refl, sym, ap, ap₂, subst, ◌∙◌, arith}
use Rattle.std.proofs.lemmas.Bool.{ne_eqb}
use Rattle.std.proofs.lemmas.Int.{ints}
use Rattle.it_number.proofs.Ring.{ring, mul-null, v, plus, minus, times, nil}
use Rattle.it_rational.specs.Rational.{Rational, IsRatio}
use Rattle.it_rational.specs.Rational as Q
use Rattle.it_rational.proofs.Field.{field_ℚ}
use Rattle.it_rational.proofs.RationalLaws.{ring_ℚ}
use Rattle.it_rational.proofs.Names.{whole_names}
use Rattle.it_space.specs.Rows.{Terms, value}
use Rattle.it_space.specs.Sums.{number_at}
use Rattle.it_tableau.specs.Operations.{rationals}
use Rattle.it_tableau.specs.FieldOperations.{sum_to, difference}
use Rattle.it_tableau.specs.SimplexTables.{SimplexTable, FeasibilityProblem, start_row}
use Rattle.it_tableau.proofs.Sums.{sum_same, sum_null, sum_add, sum_times}
use Rattle.it_tableau.proofs.ViewLemmas.{same_functions}
use Rattle.it_run.proofs.Behind.{row_behind}
use Rattle.it_engine.specs.Behind.{ShowsBehind}
use Rattle.it_whole.specs.Updates.{IsWholeRowReduced}
use Rattle.it_whole.specs.WholeRows.{IsRow, WholeRowView}
use Rattle.it_engine.specs.Tables.{whole_row_at}
use Rattle.it_engine.proofs.Generators.{value_named}
use Rattle.it_whole.proofs.Names.{scaled_name}

module _ (p : FeasibilityProblem Rational) (b t : SimplexTable Rational) (columns : List Terms) (limit : ℕ) (rows : List WholeRowView)
    (basis : List ℕ) (moved : ℕ → Bool)
    (s : ShowsBehind p b t columns limit rows basis moved) (r : ℕ) (row : r < length basis) (stays : moved r ≡ false) where
  abbrev m : ℕ
  m = length basis

  abbrev n : ℕ
  n = length columns

  -- the amount that the first q rows subtract at column j
  abbrev taken_off : ℕ → ℕ → Rational
  taken_off q j = sum_to ring_ℚ q (λ k. cond (moved k) (Q.times (b.entry r (t.basis k)) (t.entry k j)) (Q.integer (pos 0)))

  -- the row after the first q rows
  abbrev pub entry_after : ℕ → ℕ → Rational
  entry_after q j = difference ring_ℚ (b.entry r j) (taken_off q j)

  moved_step : (q j : ℕ) → moved q ≡ true → entry_after (suc q) j ≡ difference ring_ℚ (entry_after q j) (Q.times (t.entry q j) (b.entry r (t.basis q)))
  moved_step q j e = ap (λ d. difference ring_ℚ (b.entry r j) (Q.plus
      (cond d (Q.times (b.entry r (t.basis q)) (t.entry q j)) (Q.integer (pos 0))) (taken_off q j))) e
      ∙ ring ring_ℚ (b.entry r j ∷ b.entry r (t.basis q) ∷ t.entry q j ∷ taken_off q j ∷ [])
      (plus (v 0) (minus (plus (times (v 1) (v 2)) (v 3)))) (plus (plus (v 0) (minus (v 3))) (minus (times (v 2) (v 1)))) refl

  still_step : (q j : ℕ) → moved q ≡ false → entry_after (suc q) j ≡ entry_after q j
  still_step q j e = ap (λ d. difference ring_ℚ (b.entry r j) (Q.plus
      (cond d (Q.times (b.entry r (t.basis q)) (t.entry q j)) (Q.integer (pos 0))) (taken_off q j))) e
      ∙ ap (difference ring_ℚ (b.entry r j)) (ring_ℚ.null-add (taken_off q j))

  -- the row as the sum of its entries at the artificial columns times the start rows
  abbrev Combines : (ℕ → Rational) → Type 0
  Combines f = (j : ℕ) → f j ≡ sum_to ring_ℚ m (λ k. Q.times (f (n + k)) (start_row rationals m n p k j))

  less_combines : (f g : ℕ → Rational) (x : Rational) → Combines f → Combines g → Combines (λ j. difference ring_ℚ (f j) (Q.times (g j) x))
  less_combines f g x hf hg j =
      ap₂ (λ y z. difference ring_ℚ y (Q.times z x)) (hf j) (hg j)
      ∙ ring ring_ℚ (sum_to ring_ℚ m (λ k. Q.times (f (n + k)) (S k)) ∷ sum_to ring_ℚ m (λ k. Q.times (g (n + k)) (S k)) ∷ x ∷ [])
      (plus (v 0) (minus (times (v 1) (v 2)))) (plus (v 0) (times (v 1) (minus (v 2)))) refl
      ∙ ap (Q.plus (sum_to ring_ℚ m (λ k. Q.times (f (n + k)) (S k)))) (sym (sum_times ring_ℚ m (λ k. Q.times (g (n + k)) (S k)) (Q.minus x)))
      ∙ sym (sum_add ring_ℚ m (λ k. Q.times (f (n + k)) (S k)) (λ k. Q.times (Q.times (g (n + k)) (S k)) (Q.minus x)))
      ∙ sum_same ring_ℚ m (λ k. Q.plus (Q.times (f (n + k)) (S k)) (Q.times (Q.times (g (n + k)) (S k)) (Q.minus x)))
      (λ k. Q.times (difference ring_ℚ (f (n + k)) (Q.times (g (n + k)) x)) (S k))
      (λ k _. ring ring_ℚ (f (n + k) ∷ g (n + k) ∷ S k ∷ x ∷ []) (plus (times (v 0) (v 2)) (times (times (v 1) (v 2)) (minus (v 3))))
      (times (plus (v 0) (minus (times (v 1) (v 3)))) (v 2)) refl)
    where
      S : ℕ → Rational
      S = λ k. start_row rationals m n p k j

  after_combines : (q : ℕ) → q ≤ m → Combines (entry_after q)
  after_combines zero h = subst Combines (same_functions (λ j. sym (less_nothing (b.entry r j)))) (λ j. s.behind.base.combines r j (omega (arith, row)))
    where
      less_nothing : (x : Rational) → difference ring_ℚ x (Q.integer (pos 0)) ≡ x
      less_nothing x = ring ring_ℚ (x ∷ []) (plus (v 0) (minus nil)) (v 0) refl
  after_combines (suc q) h = by_move (after_combines q (omega (arith, h))) (moved q) refl
    where
      by_move : Combines (entry_after q) → (d : Bool) → moved q ≡ d → Combines (entry_after (suc q))
      by_move before true e = subst Combines (same_functions (λ j. sym (moved_step q j e)))
          (less_combines (entry_after q) (t.entry q) (b.entry r (t.basis q)) before (λ j. s.behind.holds.combines q j (omega (arith, h))))
      by_move before false e = subst Combines (same_functions (λ j. sym (still_step q j e))) before

  -- the entry at the basic column of a later row stays
  entry_stays : (q : ℕ) → q < m → entry_after q (t.basis q) ≡ b.entry r (t.basis q)
  entry_stays q l = ap (difference ring_ℚ (b.entry r (t.basis q))) (sum_same ring_ℚ q
      (λ k. cond (moved k) (Q.times (b.entry r (t.basis k)) (t.entry k (t.basis q))) (Q.integer (pos 0))) (λ k. Q.integer (pos 0))
      (λ k h. by_move k h (moved k)) ∙ sum_null ring_ℚ q)
      ∙ ring ring_ℚ (b.entry r (t.basis q) ∷ []) (plus (v 0) (minus nil)) (v 0) refl
    where
      by_move : (k : ℕ) → k < q → (d : Bool) → cond d (Q.times (b.entry r (t.basis k)) (t.entry k (t.basis q))) (Q.integer (pos 0)) ≡ Q.integer (pos 0)
      by_move k h true = ap (Q.times (b.entry r (t.basis k))) (s.behind.holds.units k q (omega (arith, h, l)) l
          ∙ ap (λ d. cond d (Q.integer (pos 1)) (Q.integer (pos 0))) (ne_eqb k q (λ e. omega (arith, h, e))))
          ∙ mul-null ring_ℚ (b.entry r (t.basis k))
      by_move k h false = refl

  -- the row shows what is left after the first q rows
  abbrev pub ShowsAfter : ℕ → WholeRowView → Type 0
  ShowsAfter q now = IsRow (m + 1) limit (λ k. entry_after q (n + k)) now.numbers now.denominator

  pub none_taken : ShowsAfter 0 (whole_row_at rows r)
  none_taken = subst (λ (f : ℕ → Rational). IsRow (m + 1) limit f (whole_row_at rows r).numbers (whole_row_at rows r).denominator)
      (same_functions (λ k. base_entry k (moved r) stays)) (s.shows.row r (omega (arith, row)))
    where
      base_entry : (k : ℕ) (d : Bool) → d ≡ false → cond d (t.entry r (n + k)) (b.entry r (n + k)) ≡ entry_after 0 (n + k)
      base_entry k d e = ap (λ c. cond c (t.entry r (n + k)) (b.entry r (n + k))) e ∙ ring ring_ℚ (b.entry r (n + k) ∷ []) (v 0) (plus (v 0) (minus nil)) refl

  pub still_taken : (q : ℕ) (now : WholeRowView) → moved q ≡ false → ShowsAfter q now → ShowsAfter (suc q) now
  still_taken q now e h = subst (λ (f : ℕ → Rational). IsRow (m + 1) limit f now.numbers now.denominator) (same_functions (λ k. sym (still_step q (n + k) e))) h

  pub moved_taken : (q : ℕ) (now new : WholeRowView) → q < m → moved q ≡ true → ShowsAfter q now
      → IsWholeRowReduced (m + 1) limit now (whole_row_at rows q) (value (slice_index_or columns (slice_index_or basis q 0) [])
      (number_at now.numbers)) (pos (whole_row_at rows q).denominator) new → ShowsAfter (suc q) new
  moved_taken q now new l e h a = subst (λ (f : ℕ → Rational). IsRow (m + 1) limit f new.numbers new.denominator)
      (same_functions (λ k. ap (λ y. difference ring_ℚ (entry_after q (n + k)) (Q.times (t.entry q (n + k)) y))
      (by_one (b.entry r (t.basis q))) ∙ sym (moved_step q (n + k) e)))
      (a (λ k. entry_after q (n + k)) (λ k. t.entry q (n + k)) (b.entry r (t.basis q)) (Q.integer (pos 1)) h own_row entry_is one_is)
    where
      own : WholeRowView
      own = whole_row_at rows q

      own_row : IsRow (m + 1) limit (λ k. t.entry q (n + k)) own.numbers own.denominator
      own_row = subst (λ (d : Bool). IsRow (m + 1) limit (λ k. cond d (t.entry q (n + k)) (b.entry q (n + k))) own.numbers own.denominator) e
          (s.shows.row q (omega (arith, l)))

      inverse_of_one : Q.inverse (Q.integer (pos 1)) ≡ Q.integer (pos 1)
      inverse_of_one = sym (ring_ℚ.unit-mul (Q.inverse (Q.integer (pos 1)))) ∙ field_ℚ.order.mul-inv (Q.integer (pos 1)) field_ℚ.order.apart

      by_one : (x : Rational) → Q.times x (Q.inverse (Q.integer (pos 1))) ≡ x
      by_one x = ap (Q.times x) inverse_of_one ∙ ring_ℚ.mul_comm x (Q.integer (pos 1)) ∙ ring_ℚ.unit-mul x

      one_is : IsRatio (Q.integer (pos 1)) (pos own.denominator) own.denominator
      one_is = one_over own.denominator
        where
          one_over : (d : ℕ) → IsRatio (Q.integer (pos 1)) (pos d) d
          one_over d = let z : pos 1 *ℤ pos d ≡ pos d = omega (arith, ints) in let k : 1 * d ≡ d = omega arith in
              subst (λ (z : ℤ). IsRatio (Q.integer (pos 1)) z d) z (subst (λ (k : ℕ). IsRatio (Q.integer (pos 1)) (pos 1 *ℤ pos d) k) k
              (scaled_name (Q.integer (pos 1)) (pos 1) 1 d (whole_names (pos 1))))

      basic : t.basis q < n
      basic = s.entered q l e

      entry_is : IsRatio (b.entry r (t.basis q)) (value (slice_index_or columns (slice_index_or basis q 0) []) (number_at now.numbers)) now.denominator
      entry_is = subst (λ (j : ℕ). IsRatio (b.entry r (t.basis q)) (value (slice_index_or columns j []) (number_at now.numbers)) now.denominator)
          (s.shows.basis_is q l)
          (let c = s.columns_are.column (t.basis q) basic in
          subst (λ (x : Rational). IsRatio x (value (slice_index_or columns (t.basis q) []) (number_at now.numbers)) now.denominator)
          (sym (c.value_is (λ k. entry_after q (n + k))) ∙ sym (after_combines q (omega (arith, l)) (t.basis q)) ∙ entry_stays q l)
          (value_named (slice_index_or columns (t.basis q) []) m (λ k. entry_after q (n + k))
          (number_at now.numbers) now.denominator h.some c.within (λ k g. h.named k (omega (arith, g)))))

  -- after all rows it is up to date
  pub all_taken : (now : WholeRowView) → ShowsAfter m now → IsRow (m + 1) limit (λ k. t.entry r (n + k)) now.numbers now.denominator
  all_taken now h = subst (λ (f : ℕ → Rational). IsRow (m + 1) limit f now.numbers now.denominator)
      (same_functions (λ k. sym (row_behind field_ℚ m n p b t s.behind.base s.behind.holds moved s.behind.same r (n + k) row stays))) h
