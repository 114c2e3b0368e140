-- Whole numbers among the rational ones, and sums times a scale.
use Rattle.std.proofs.Common.{◌≡◌, ℕ, zero, suc, ◌*◌, ◌/◌, ◌<◌, ℤ, pos, negsuc, neg_ℤ, ◌*ℤ◌, ◌<ℤ◌, ◌≤ℤ◌, unsigned_abs, [], ◌∷◌, Bool, true, false, refl, sym, ap, ap₂, subst, ◌∙◌, arith, mul-pos, one-mul}
use Rattle.std.proofs.lemmas.Int.{ints}
use Rattle.it_number.proofs.Ring.{ring, v, plus, times, minus, nil}
use Rattle.it_number.proofs.Integers.{zring, mul_assoc, mul_comm}
use Rattle.it_number.proofs.Quotients.{one_pos}
use Rattle.it_rational.specs.Rational.{Rational, is_at_least_zero}
use Rattle.it_rational.specs.Rational as Q
use Rattle.it_rational.proofs.RationalLaws.{ring_ℚ}
use Rattle.it_rational.proofs.Field.{least_by_sign, sign_of_least, field_ℚ}
use Rattle.it_rational.proofs.Names.{same_value, quotient_names, times_names, own_name, own_parts}
use Rattle.it_rational.proofs.Signs.{minus_below, minus_least}
use Rattle.it_rational.proofs.Ordered.{neg-above, mul-above}
use Rattle.it_rational.specs.OrderedFields.{IsAboveZero}
use Rattle.it_space.specs.Rows.{Terms, value}
use Rattle.it_run.specs.RowValues.{rational_value}
use Rattle.it_run.proofs.RowValues.{whole_plus}
use Rattle.std.specs.List.{AllByRecursion as Every}
use Rattle.it_columns.specs.Scaling.{scaled_number}
use Prim.Native.Nat.{◌∣◌}
use native.Mathlib.Nat.{div-mul_cancel, one-dvd}

pub whole_parts : (z : ℤ) → ((Q.integer z).num ≡ z) × ((Q.integer z).den ≡ 1)
whole_parts z = own_parts z 1 one_pos (one-dvd (unsigned_abs z), one-dvd 1, λ d p q. q)

pub whole_same : (a b : ℤ) → Q.integer a ≡ Q.integer b → a ≡ b
whole_same a b e = sym (whole_parts a).0 ∙ ap (λ (q : Rational). q.num) e ∙ (whole_parts b).0

pub whole_times : (a b : ℤ) → Q.integer (a *ℤ b) ≡ Q.times (Q.integer a) (Q.integer b)
whole_times a b = same_value (Q.integer (a *ℤ b)) (Q.times (Q.integer a) (Q.integer b)) (a *ℤ b) (a *ℤ b) 1 (1 * 1) (omega arith) (omega arith)
    (quotient_names (a *ℤ b) 1 (omega arith))
    (times_names (Q.integer a) (Q.integer b) a b 1 1 (omega arith) (omega arith) (quotient_names a 1 (omega arith)) (quotient_names b 1 (omega arith)))
    (omega (arith, zring))

pub whole_minus : (a : ℤ) → Q.integer (neg_ℤ a) ≡ Q.minus (Q.integer a)
whole_minus a = ap₂ Q.quotient (ap neg_ℤ (sym (whole_parts a).0)) (sym (whole_parts a).1)

-- a number times a multiple of its denominator
pub whole_scaled : (l : ℕ) (q : Rational) → q.den ∣ l → Q.integer (scaled_number l q) ≡ Q.times (Q.integer (pos l)) q
unfolding scaled_number
whole_scaled l q h =
    same_value (Q.integer (q.num *ℤ pos (l / q.den))) (Q.times (Q.integer (pos l)) q) (q.num *ℤ pos (l / q.den)) (pos l *ℤ q.num) 1
    (1 * q.den) (omega arith) (omega (arith, q.positive))
    (quotient_names (q.num *ℤ pos (l / q.den)) 1 (omega arith))
    (times_names (Q.integer (pos l)) q (pos l) q.num 1 q.den (omega arith) q.positive (quotient_names (pos l) 1 (omega arith)) (own_name q))
    (cross_products q.num (l / q.den) q.den l (div-mul_cancel q.den h))
  where
    cross_products : (n : ℤ) (k d l : ℕ) → k * d ≡ l → (n *ℤ pos k) *ℤ pos (1 * d) ≡ (pos l *ℤ n) *ℤ pos 1
    cross_products n k d l e = ap (λ m. (n *ℤ pos k) *ℤ pos m) (one-mul d) ∙ mul_assoc n (pos k) (pos d) ∙ mul_comm n (pos (k * d))
        ∙ ap (λ m. pos m *ℤ n) e ∙ times_one (pos l *ℤ n)
      where
        times_one : (x : ℤ) → x ≡ x *ℤ pos 1
        times_one x = omega (arith, ints)

-- ---- signs

-- a number above 0 has a numerator above 0
pub above_num : (q : Rational) → IsAboveZero field_ℚ q → pos 0 <ℤ q.num
above_num q h = by_sign q.num (λ n. not_both (is_at_least_zero (Q.minus q)) (minus_least q n) h)
  where
    not_both : (b : Bool) → b ≡ true → b ≡ false → ⊥
    not_both b e f = cc

    by_sign : (z : ℤ) → (¬ (pos 0 <ℤ z) → ⊥) → pos 0 <ℤ z
    by_sign (pos zero) f = absurd (f (λ h. omega (arith, ints)))
    by_sign (pos (suc n)) f = omega (arith, ints)
    by_sign (negsuc n) f = absurd (f (λ h. omega (arith, ints)))

pub scaled_above : (l : ℕ) (q : Rational) → 0 < l → q.den ∣ l → IsAboveZero field_ℚ q → pos 0 <ℤ scaled_number l q
unfolding scaled_number
scaled_above l q h d a = product q.num (l / q.den) (above_num q a) (factor_some (l / q.den) (div-mul_cancel q.den d))
  where
    factor_some : (k : ℕ) → k * q.den ≡ l → 0 < k
    factor_some zero e = absurd (omega (arith, native.Mathlib.Nat.zero-mul q.den))
    factor_some (suc k) e = omega arith

    product : (z : ℤ) (k : ℕ) → pos 0 <ℤ z → 0 < k → pos 0 <ℤ (z *ℤ pos k)
    product (pos n) k h g = let m : 0 < n * k = mul-pos (omega (arith, ints)) g in omega (arith, ints)
    product (negsuc n) k h g = absurd (omega (arith, ints))

-- ---- values at a point times the scale

module _ (l : ℕ) (p : ℕ → ℤ) (h : ℕ → Rational) where
  pub value_scaled : (row : Terms) → Every (λ t. Q.integer (p t.0) ≡ Q.times (Q.integer (pos l)) (h t.0)) row
      → Q.integer (value row p) ≡ Q.times (Q.integer (pos l)) (rational_value row h)
  value_scaled [] e = sym (ring ring_ℚ (Q.integer (pos l) ∷ []) (times (v 0) nil) nil refl)
  value_scaled (t ∷ ts) e =
      whole_plus (t.1 *ℤ p t.0) (value ts p)
      ∙ ap₂ Q.plus (whole_times t.1 (p t.0) ∙ ap (Q.times (Q.integer t.1)) e.0) (value_scaled ts e.1)
      ∙ ring ring_ℚ (Q.integer (pos l) ∷ Q.integer t.1 ∷ h t.0 ∷ rational_value ts h ∷ [])
      (plus (times (v 1) (times (v 0) (v 2))) (times (v 0) (v 3))) (times (v 0) (plus (times (v 1) (v 2)) (v 3))) refl

  module _ (some : 0 < l) (row : Terms) (e : Every (λ t. Q.integer (p t.0) ≡ Q.times (Q.integer (pos l)) (h t.0)) row) where
    scale_above : IsAboveZero field_ℚ (Q.integer (pos l))
    scale_above = minus_below (Q.integer (pos l)) (subst (λ (z : ℤ). pos 0 <ℤ z) (sym (whole_parts (pos l)).0) (omega (arith, ints)))

    pub least_scaled : is_at_least_zero (rational_value row h) ≡ true → pos 0 ≤ℤ value row p
    least_scaled a =
        let scale_least : is_at_least_zero (Q.integer (pos l))
        ≡ true = sign_of_least (Q.integer (pos l)).num (subst (λ (z : ℤ). pos 0 ≤ℤ z) (sym (whole_parts (pos l)).0)
        (omega (arith, ints))) in
        subst (λ (z : ℤ). pos 0 ≤ℤ z) (whole_parts (value row p)).0
        (least_by_sign (Q.integer (value row p)).num (ap is_at_least_zero (value_scaled row e)
        ∙ field_ℚ.order.mul-least (Q.integer (pos l)) (rational_value row h) scale_least a))

    pub below_scaled : is_at_least_zero (rational_value row h) ≡ false → value row p ≤ℤ neg_ℤ (pos 1)
    below_scaled b =
        let above : IsAboveZero field_ℚ (Q.times (Q.integer (pos l)) (Q.minus (rational_value row h))) =
        mul-above field_ℚ (Q.integer (pos l)) (Q.minus (rational_value row h)) scale_above (neg-above field_ℚ (rational_value row h) b) in
        let is : Q.times (Q.integer (pos l)) (Q.minus (rational_value row h)) ≡ Q.integer (neg_ℤ (value row p)) =
        ring ring_ℚ (Q.integer (pos l) ∷ rational_value row h ∷ []) (times (v 0) (minus (v 1))) (minus (times (v 0) (v 1))) refl
        ∙ ap Q.minus (sym (value_scaled row e)) ∙ sym (whole_minus (value row p)) in
        at_most_minus_one (value row p) (subst (λ (z : ℤ). pos 0 <ℤ z) (ap (λ (q : Rational). q.num) is
        ∙ (whole_parts (neg_ℤ (value row p))).0) (above_num (Q.times (Q.integer (pos l)) (Q.minus (rational_value row h))) above))
      where
        at_most_minus_one : (x : ℤ) → pos 0 <ℤ neg_ℤ x → x ≤ℤ neg_ℤ (pos 1)
        at_most_minus_one x h = omega (arith, ints)
