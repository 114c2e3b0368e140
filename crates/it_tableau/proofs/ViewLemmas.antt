-- Pivoted rows show the pivoted table, and its numbers are theirs.
use Rattle.std.proofs.Common.{◌≡◌, ℕ, Bool, subst, pos, ◌+◌, ◌<◌, ◌≤◌, List, [], ◌∷◌, length, get_or, slice_set, refl, sym, ap, ap₂, ◌∙◌, ◌⊎◌, inl, inr, arith, cond, eqb}
use Rattle.std.proofs.lemmas.Bool.{cases_eq, cases_lt, eq-eqb, ne_eqb}
use Rattle.std.proofs.lemmas.List.{get_or-set_same, get_or-set_other, length-set, get_or_past}
use Rattle.it_number.proofs.Ring.{ring, v, plus, times, minus, nil}
use Rattle.it_rational.specs.Rational.{Rational}
use Rattle.it_rational.specs.Rational as Q
use Rattle.it_rational.proofs.RationalLaws.{ring_ℚ}
use Rattle.it_tableau.specs.Operations.{rationals}
use Rattle.it_tableau.specs.SimplexTables.{SimplexTable, pivot}
use Rattle.it_tableau.specs.Entries.{entry_at, row_at, zero_rational}
use Rattle.it_tableau.specs.Rows.{RowsPivotFits, ArePivoted}
use Rattle.it_tableau.specs.Fits.{PivotFits}
use Rattle.it_tableau.specs.TableauViews.{table_of, HasShape, IsSound}

pub same_functions : {X : Type 0} {f g : ℕ → X} → ((k : ℕ) → f k ≡ g k) → f ≡ g
same_functions h = λ i x. h x i

zero_is : zero_rational ≡ Q.integer (pos 0)
unfolding zero_rational
zero_is = refl

-- past the end a list reads 0
pub entry_past_end : (row : List Rational) (j : ℕ) → length row ≤ j → entry_at row j ≡ Q.integer (pos 0)
entry_past_end row j h = get_or_past row j zero_rational h ∙ zero_is

pub entry_past_rows : (rows : List (List Rational)) (i j : ℕ) → length rows ≤ i → entry_at (row_at rows i) j ≡ Q.integer (pos 0)
entry_past_rows rows i j h = ap (λ r. entry_at r j) (get_or_past rows i [] h) ∙ entry_past_end [] j (omega arith)

pub new_shape : (m n : ℕ) (old new : List (List Rational)) (basis : List ℕ) (r c : ℕ) → r < m → HasShape m n old basis
    → ArePivoted old r c new → HasShape m n new (slice_set basis r c)
new_shape m n old new basis r c hr s p = record {
  rows_are = p.same_length ∙ s.rows_are;
  entries_are = λ i l. by_cases i l (cases_eq i r);
  basis_is = length-set basis r c ∙ s.basis_is;
}
  where
    by_cases : (i : ℕ) → i < m + 1 → (i ≡ r) ⊎ (i ≡ r → ⊥) → length (row_at new i) ≡ n + m + 1
    by_cases i l (inl e) = ap (λ k. length (row_at new k)) e ∙ p.own.same_length ∙ s.entries_are r (omega arith)
    by_cases i l (inr d) = (p.others i (omega (arith, s.rows_are)) d).same_length ∙ s.entries_are i l

pub pivot_is_shown : (m n : ℕ) (old new : List (List Rational)) (basis : List ℕ) (r c : ℕ) → r < m → c < n + m → HasShape m n old basis → ArePivoted old r c new
    → table_of new (slice_set basis r c) ≡ pivot rationals (table_of old basis) r c
pivot_is_shown m n old new basis r c hr hc s p = ap₂ (λ (e : ℕ → ℕ → Rational)
    (b : ℕ → ℕ). let t : SimplexTable Rational = record { entry = e; basis = b } in t)
    (same_functions (λ i. same_functions (λ j. entry i j (cases_lt i (m + 1)) (cases_lt j (n + m + 1)) (cases_eq i r))))
    (same_functions (λ i. column i (cases_eq i r)))
  where
    t : ℕ → ℕ → Rational
    t i j = entry_at (row_at old i) j

    new_length : (i : ℕ) → i < m + 1 → length (row_at new i) ≡ n + m + 1
    new_length = (new_shape m n old new basis r c hr s p).entries_are

    own_row_entry : (i j : ℕ) → i ≡ r → (pivot rationals (table_of old basis) r c).entry i j
        ≡ Q.times (entry_at (row_at old r) j) (Q.inverse (entry_at (row_at old r) c))
    own_row_entry i j e = ap (λ b. cond b (Q.times (entry_at (row_at old r) j) (Q.inverse (entry_at (row_at old r) c)))
        (Q.plus (entry_at (row_at old i) j) (Q.minus (Q.times (entry_at (row_at old r) j)
        (Q.times (entry_at (row_at old i) c) (Q.inverse (entry_at (row_at old r) c))))))) (eq-eqb i r e)

    other_row_entry : (i j : ℕ) → (i ≡ r → ⊥) → (pivot rationals (table_of old basis) r c).entry i j
        ≡ Q.plus (entry_at (row_at old i) j) (Q.minus (Q.times (entry_at (row_at old r) j)
        (Q.times (entry_at (row_at old i) c) (Q.inverse (entry_at (row_at old r) c)))))
    other_row_entry i j d = ap (λ b. cond b (Q.times (entry_at (row_at old r) j) (Q.inverse (entry_at (row_at old r) c)))
        (Q.plus (entry_at (row_at old i) j) (Q.minus (Q.times (entry_at (row_at old r) j)
        (Q.times (entry_at (row_at old i) c) (Q.inverse (entry_at (row_at old r) c))))))) (ne_eqb i r d)

    zero_times : (x y : Rational) → x ≡ Q.integer (pos 0) → Q.times x y ≡ Q.integer (pos 0)
    zero_times x y e = ap (λ z. Q.times z y) e ∙ ring ring_ℚ (y ∷ []) (times nil (v 0)) nil refl

    zero_less : (a x q : Rational) → a ≡ Q.integer (pos 0) → x ≡ Q.integer (pos 0) → Q.plus a (Q.minus (Q.times x q)) ≡ Q.integer (pos 0)
    zero_less a x q e f = ap₂ (λ y z. Q.plus y (Q.minus (Q.times z q))) e f ∙ ring ring_ℚ (q ∷ []) (plus nil (minus (times nil (v 0)))) nil refl

    zero_quotient : (a x y u : Rational) → a ≡ Q.integer (pos 0) → y ≡ Q.integer (pos 0) → Q.plus a (Q.minus (Q.times x (Q.times y u))) ≡ Q.integer (pos 0)
    zero_quotient a x y u e f = ap₂ (λ b z. Q.plus b (Q.minus (Q.times x (Q.times z u)))) e f
        ∙ ring ring_ℚ (x ∷ u ∷ []) (plus nil (minus (times (v 0) (times nil (v 1))))) nil refl

    entry : (i j : ℕ) → (i < m + 1) ⊎ (m + 1 ≤ i) → (j < n + m + 1) ⊎ (n + m + 1 ≤ j) → (i ≡ r) ⊎ (i ≡ r → ⊥)
        → entry_at (row_at new i) j ≡ (pivot rationals (table_of old basis) r c).entry i j
    entry i j (inl l) (inl k) (inl e) = ap (λ x. entry_at (row_at new x) j) e
        ∙ p.own.entries j (omega (arith, s.entries_are r (omega arith))) ∙ sym (own_row_entry i j e)
    entry i j (inl l) (inl k) (inr d) = (p.others i (omega (arith, s.rows_are)) d).entries j (omega (arith, s.entries_are i l)) ∙ sym (other_row_entry i j d)
    entry i j (inl l) (inr k) (inl e) = entry_past_end (row_at new i) j (omega (arith, new_length i l))
        ∙ sym (own_row_entry i j e ∙ zero_times (entry_at (row_at old r) j) (Q.inverse (entry_at (row_at old r) c))
        (entry_past_end (row_at old r) j (omega (arith, s.entries_are r (omega arith)))))
    entry i j (inl l) (inr k) (inr d) = entry_past_end (row_at new i) j (omega (arith, new_length i l))
        ∙ sym (other_row_entry i j d ∙ zero_less (entry_at (row_at old i) j) (entry_at (row_at old r) j)
        (Q.times (entry_at (row_at old i) c) (Q.inverse (entry_at (row_at old r) c)))
        (entry_past_end (row_at old i) j (omega (arith, s.entries_are i l))) (entry_past_end (row_at old r) j (omega (arith, s.entries_are r (omega arith)))))
    entry i j (inr l) k (inl e) = absurd (omega arith)
    entry i j (inr l) k (inr d) = entry_past_rows new i j (omega (arith, p.same_length, s.rows_are))
        ∙ sym (other_row_entry i j d ∙ zero_quotient (entry_at (row_at old i) j) (entry_at (row_at old r) j) (entry_at (row_at old i) c)
        (Q.inverse (entry_at (row_at old r) c))
        (entry_past_rows old i j (omega (arith, s.rows_are))) (entry_past_rows old i c (omega (arith, s.rows_are))))

    column : (i : ℕ) → (i ≡ r) ⊎ (i ≡ r → ⊥) → get_or (slice_set basis r c) i 0 ≡ cond (eqb i r) c (get_or basis i 0)
    column i (inl e) = ap (λ x. get_or (slice_set basis r c) x 0) e ∙ get_or-set_same basis r c 0 (omega (arith, s.basis_is))
        ∙ ap (λ b. cond b c (get_or basis i 0)) (sym (eq-eqb i r e))
    column i (inr d) = get_or-set_other basis r i c 0 d ∙ ap (λ b. cond b c (get_or basis i 0)) (sym (ne_eqb i r d))

-- the numbers of the code's pivot are those of the step
pub pivot_numbers_fit : (m n : ℕ) (rows : List (List Rational)) (basis : List ℕ) (r c : ℕ) → r < m → HasShape m n rows basis
    → RowsPivotFits rows r c → PivotFits m n (table_of rows basis) r c
pivot_numbers_fit m n rows basis r c hr s f = record {
  quotients = λ i l d. (f.others i (omega (arith, s.rows_are)) d).quotient;
  entries = λ i j l d k. (f.others i (omega (arith, s.rows_are)) d).row_fits j (omega (arith, s.entries_are i l));
  own = λ j k. f.own j (omega (arith, s.entries_are r (omega arith)));
}

-- pivoted rows are still sound
pub pivot_sound : (n w : ℕ) (old new : List (List Rational)) (basis : List ℕ) (negated : List Bool) (r c : ℕ) → r < length basis
    → IsSound n w old basis negated → ArePivoted old r c new
    → IsSound n w new (slice_set basis r c) negated
pivot_sound n w old new basis negated r c h s p = record {
  width_is = s.width_is ∙ ap (λ k. n + k) (sym (length-set basis r c));
  shape = subst (λ (m : ℕ). HasShape m n new (slice_set basis r c)) (sym (length-set basis r c)) (new_shape (length basis) n old new basis r c h s.shape p);
  signs_are = s.signs_are ∙ sym (length-set basis r c);
}
