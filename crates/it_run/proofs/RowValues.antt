-- What weights and a point show, in terms of the rows' values at a map from coordinates.
use Rattle.std.proofs.Common.{◌≡◌, ℕ, suc, ◌*◌, ◌<◌, true, false, cond, eqb, ℤ, pos, ◌+ℤ◌, ◌*ℤ◌, List, [], ◌∷◌, length, All, get_or, refl, sym, ap, ap₂, subst, ◌∙◌, ◌⊎◌, inl, inr, arith}
use Rattle.std.proofs.lemmas.Bool.{eq-eqb, ne_eqb, cases_eq}
use Rattle.it_number.proofs.Ring.{ring, v, plus, times, nil}
use Rattle.it_number.proofs.Integers.{zring}
use Rattle.it_rational.specs.Rational.{Rational, is_at_least_zero}
use Rattle.it_rational.specs.Rational as Q
use Rattle.it_rational.proofs.RationalLaws.{ring_ℚ}
use Rattle.it_rational.proofs.Names.{same_value, quotient_names, plus_names}
use Rattle.it_space.specs.Rows.{Terms, coefficient}
use Rattle.it_tableau.specs.Operations.{rationals}
use Rattle.it_tableau.specs.FieldOperations.{sum_to}
use Rattle.it_tableau.specs.Problems.{feasibility_problem}
use Rattle.it_tableau.proofs.Sums.{sum_same, sum_add, sum_null, sum_one}
use Rattle.it_run.specs.Readings.{ring_combination, SumsUp, Separates}
use Rattle.it_run.specs.RowValues.{rational_value}

-- each term's coordinate is one of the list
abbrev pub IsOnCoordinates : List ℕ → Terms → Type 0
IsOnCoordinates coordinates row = All (λ t. (k : ℕ) × (k < length coordinates) × (get_or coordinates k 0 ≡ t.0)) row

-- no coordinate stands in the list twice
abbrev pub AreApart : List ℕ → Type 0
AreApart coordinates = (i k : ℕ) → i < length coordinates → k < length coordinates → get_or coordinates i 0 ≡ get_or coordinates k 0 → i ≡ k

pub whole_plus : (a b : ℤ) → Q.integer (a +ℤ b) ≡ Q.plus (Q.integer a) (Q.integer b)
whole_plus a b = same_value (Q.integer (a +ℤ b)) (Q.plus (Q.integer a) (Q.integer b)) (a +ℤ b) (a *ℤ pos 1 +ℤ b *ℤ pos 1) 1 (1 * 1) (omega arith) (omega arith)
    (quotient_names (a +ℤ b) 1 (omega arith))
    (plus_names (Q.integer a) (Q.integer b) a b 1 1 (omega arith) (omega arith) (quotient_names a 1 (omega arith)) (quotient_names b 1 (omega arith)))
    (omega (arith, zring))

module _ (coordinates : List ℕ) (apart : AreApart coordinates) where
  -- a row's value is the sum over the coordinates
  pub value_is : (row : Terms) (h : ℕ → Rational) → IsOnCoordinates coordinates row
      → rational_value row h ≡ sum_to ring_ℚ (length coordinates) (λ k. Q.times (Q.integer (coefficient row (get_or coordinates k 0)))
      (h (get_or coordinates k 0)))
  value_is [] h o = sym (sum_same ring_ℚ (length coordinates) (λ k. Q.times (Q.integer (pos 0)) (h (get_or coordinates k 0))) (λ k. Q.integer (pos 0))
      (λ k l. ring ring_ℚ (h (get_or coordinates k 0) ∷ []) (times nil (v 0)) nil refl) ∙ sum_null ring_ℚ (length coordinates))
  value_is (t ∷ ts) h o = ap₂ Q.plus term_as_sum (value_is ts h (λ k d l. o (suc k) d (omega (arith, l)))) ∙ sym sum_of_parts
    where
      sum_of_parts : sum_to ring_ℚ (length coordinates) (λ k. Q.times
          (Q.integer (cond (eqb t.0 (get_or coordinates k 0)) t.1 (pos 0) +ℤ coefficient ts (get_or coordinates k 0)))
          (h (get_or coordinates k 0)))
          ≡ Q.plus (sum_to ring_ℚ (length coordinates) (λ k. Q.times (Q.integer (cond (eqb t.0 (get_or coordinates k 0)) t.1 (pos 0)))
          (h (get_or coordinates k 0))))
          (sum_to ring_ℚ (length coordinates) (λ k. Q.times (Q.integer (coefficient ts (get_or coordinates k 0))) (h (get_or coordinates k 0))))
      sum_of_parts = sum_same ring_ℚ (length coordinates) (λ k. Q.times
          (Q.integer (cond (eqb t.0 (get_or coordinates k 0)) t.1 (pos 0) +ℤ coefficient ts (get_or coordinates k 0)))
          (h (get_or coordinates k 0)))
          (λ k. Q.plus (Q.times (Q.integer (cond (eqb t.0 (get_or coordinates k 0)) t.1 (pos 0))) (h (get_or coordinates k 0)))
          (Q.times (Q.integer (coefficient ts (get_or coordinates k 0))) (h (get_or coordinates k 0))))
          (λ k l. ap (λ x. Q.times x (h (get_or coordinates k 0))) (whole_plus (cond (eqb t.0 (get_or coordinates k 0)) t.1 (pos 0))
          (coefficient ts (get_or coordinates k 0)))
          ∙ ring ring_ℚ (Q.integer (cond (eqb t.0 (get_or coordinates k 0)) t.1 (pos 0))
          ∷ Q.integer (coefficient ts (get_or coordinates k 0)) ∷ h (get_or coordinates k 0) ∷ [])
          (times (plus (v 0) (v 1)) (v 2)) (plus (times (v 0) (v 2)) (times (v 1) (v 2))) refl)
          ∙ sum_add ring_ℚ (length coordinates) (λ k. Q.times (Q.integer (cond (eqb t.0 (get_or coordinates k 0)) t.1 (pos 0))) (h (get_or coordinates k 0)))
          (λ k. Q.times (Q.integer (coefficient ts (get_or coordinates k 0))) (h (get_or coordinates k 0)))

      by_cases : (i : ℕ) → (k : ℕ) → k < length coordinates → get_or coordinates k 0 ≡ t.0 → i < length coordinates → (i ≡ k) ⊎ (i ≡ k → ⊥)
          → Q.times (Q.integer (cond (eqb t.0 (get_or coordinates i 0)) t.1 (pos 0))) (h (get_or coordinates i 0))
          ≡ cond (eqb i k) (Q.times (Q.integer t.1) (h (get_or coordinates i 0))) (Q.integer (pos 0))
      by_cases i k hk e hi (inl q) = ap (λ b. Q.times (Q.integer (cond b t.1 (pos 0))) (h (get_or coordinates i 0)))
          (eq-eqb t.0 (get_or coordinates i 0) (sym e ∙ ap (λ x. get_or coordinates x 0) (sym q)))
          ∙ ap (λ b. cond b (Q.times (Q.integer t.1) (h (get_or coordinates i 0))) (Q.integer (pos 0))) (sym (eq-eqb i k q))
      by_cases i k hk e hi (inr d) = ap (λ b. Q.times (Q.integer (cond b t.1 (pos 0))) (h (get_or coordinates i 0)))
          (ne_eqb t.0 (get_or coordinates i 0) (λ z. d (apart i k hi hk (sym z ∙ sym e))))
          ∙ ring ring_ℚ (h (get_or coordinates i 0) ∷ []) (times nil (v 0)) nil refl
          ∙ ap (λ b. cond b (Q.times (Q.integer t.1) (h (get_or coordinates i 0))) (Q.integer (pos 0))) (sym (ne_eqb i k d))

      term_as_sum : Q.times (Q.integer t.1) (h t.0)
          ≡ sum_to ring_ℚ (length coordinates) (λ k. Q.times (Q.integer (cond (eqb t.0 (get_or coordinates k 0)) t.1 (pos 0)))
          (h (get_or coordinates k 0)))
      term_as_sum = for_each (o 0 t (omega arith))
        where
          for_each : (k : ℕ) × (k < length coordinates) × (get_or coordinates k 0 ≡ t.0)
              → Q.times (Q.integer t.1) (h t.0) ≡ sum_to ring_ℚ (length coordinates)
              (λ k. Q.times (Q.integer (cond (eqb t.0 (get_or coordinates k 0)) t.1 (pos 0))) (h (get_or coordinates k 0)))
          for_each s = sym (sum_same ring_ℚ (length coordinates) (λ i. Q.times
              (Q.integer (cond (eqb t.0 (get_or coordinates i 0)) t.1 (pos 0))) (h (get_or coordinates i 0)))
              (λ i. cond (eqb i s.0) (Q.times (Q.integer t.1) (h (get_or coordinates i 0))) (Q.integer (pos 0)))
              (λ i l. by_cases i s.0 s.1 s.2 l (cases_eq i s.0))
              ∙ sum_one ring_ℚ (length coordinates) (λ i. Q.times (Q.integer t.1) (h (get_or coordinates i 0))) s.0 s.1
              ∙ ap (λ c. Q.times (Q.integer t.1) (h c)) s.2)

  -- at an end by a point q, any map h that is q at the coordinates is at least 0 on each column and below 0 on the target
  pub point_separates : (columns : List Terms) (target : Terms) (q : List Rational) (h : ℕ → Rational)
      → ((j : ℕ) → j < length columns → IsOnCoordinates coordinates (get_or columns j [])) → IsOnCoordinates coordinates target
      → ((k : ℕ) → k < length coordinates → h (get_or coordinates k 0) ≡ get_or q k (Q.integer (pos 0)))
      → Separates rationals (length coordinates) (length columns) (feasibility_problem coordinates columns target) q
      → ((j : ℕ) → j < length columns → is_at_least_zero (rational_value (get_or columns j []) h) ≡ true) × (is_at_least_zero (rational_value target h) ≡ false)
  point_separates columns target q h oc ot e s = (
    (λ j l. subst (λ (x : Rational). is_at_least_zero x
        ≡ true) (sym (value_is (get_or columns j []) h (oc j l) ∙ sum_is_value (get_or columns j []))) (s.columns j l)),
    subst (λ (x : Rational). is_at_least_zero x ≡ false) (sym (value_is target h ot ∙ sum_is_value target)) s.below,
  )
    where
      sum_is_value : (row : Terms) → sum_to ring_ℚ (length coordinates) (λ k. Q.times (Q.integer (coefficient row (get_or coordinates k 0)))
          (h (get_or coordinates k 0)))
          ≡ sum_to ring_ℚ (length coordinates) (λ k. Q.times (Q.integer (coefficient row (get_or coordinates k 0))) (get_or q k (Q.integer (pos 0))))
      sum_is_value row = sum_same ring_ℚ (length coordinates) (λ k. Q.times (Q.integer (coefficient row (get_or coordinates k 0))) (h (get_or coordinates k 0)))
          (λ k. Q.times (Q.integer (coefficient row (get_or coordinates k 0))) (get_or q k (Q.integer (pos 0))))
          (λ k l. ap (Q.times (Q.integer (coefficient row (get_or coordinates k 0)))) (e k l))

-- at an end by weights they sum to the target at each coordinate of the list
pub sums_up : (coordinates : List ℕ) (columns : List Terms) (target : Terms) (ws : List (ℕ × Rational))
    → SumsUp rationals (length coordinates) (length columns) (feasibility_problem coordinates columns target) ws
    → (c : ℕ) → ((k : ℕ) × (k < length coordinates) × (get_or coordinates k 0 ≡ c))
    → ring_combination rationals ws (λ j. Q.integer (coefficient (get_or columns j []) c)) ≡ Q.integer (coefficient target c)
sums_up coordinates columns target ws a c s =
    subst (λ (x : ℕ). ring_combination rationals ws (λ j. Q.integer (coefficient (get_or columns j []) x))
    ≡ Q.integer (coefficient target x)) s.2 (a.sum_is s.0 s.1)
