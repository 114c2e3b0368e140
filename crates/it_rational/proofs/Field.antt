-- The order of the rational numbers by the sign of a difference, as an ordered field in the sense of Ordered.
use Rattle.std.proofs.Common.{◌≡◌, ◌≢◌, ◌⊎◌, inl, inr, ℕ, zero, suc, ◌<◌, ℤ, pos, negsuc, ◌*ℤ◌, ◌≤ℤ◌, neg_ℤ, true, refl, sym, ap, ◌∙◌, arith, mul-pos, ◌<ℤ◌, false}
use Rattle.std.proofs.lemmas.Bool.{false≢true}
use Rattle.std.proofs.lemmas.Int.{ints}
use Rattle.std.proofs.Math.IntN.{zero-*ℤ}
use Rattle.it_rational.specs.Rational.{Rational, sign_least, is_at_least_zero}
use Rattle.it_rational.specs.Rational as Q
use Rattle.it_rational.proofs.Names.{same_across, quotient_names}
use Rattle.it_rational.proofs.RationalLaws.{ring_ℚ}
use Rattle.it_rational.proofs.Order.{IsLeast, plus_least, times_least, quotient_least, times-inverse}
use Rattle.it_rational.specs.OrderedFields.{Order, OrderedField}

pub least_by_sign : (z : ℤ) → sign_least z ≡ true → pos 0 ≤ℤ z
least_by_sign (pos n) h = omega (arith, ints)
least_by_sign (negsuc n) h = absurd (false≢true h)

pub sign_of_least : (z : ℤ) → pos 0 ≤ℤ z → sign_least z ≡ true
sign_of_least (pos n) h = refl
sign_of_least (negsuc n) h = absurd (omega (arith, ints))

pub sign_of_negative : (z : ℤ) → z <ℤ pos 0 → sign_least z ≡ false
sign_of_negative (pos n) h = absurd (omega (arith, ints))
sign_of_negative (negsuc n) h = refl

pub least_or_negation : (z : ℤ) → (pos 0 ≤ℤ z) ⊎ (pos 0 ≤ℤ neg_ℤ z)
least_or_negation (pos n) = inl (omega (arith, ints))
least_or_negation (negsuc n) = inr (omega (arith, ints))

-- a numerator of 0 is the number 0
pub null_from : (q : Rational) → q.num ≡ pos 0 → q ≡ Q.integer (pos 0)
null_from q e = same_across q (Q.integer (pos 0)) (ap (λ z. z *ℤ pos (Q.integer (pos 0)).den) e ∙ zero-*ℤ (pos (Q.integer (pos 0)).den)
    ∙ sym (zero-*ℤ (pos q.den)) ∙ ap (λ z. z *ℤ pos q.den) (sym whole_zero))
  where
    whole_zero : (Q.integer (pos 0)).num ≡ pos 0
    whole_zero = let n : (Q.integer (pos 0)).num *ℤ pos 1 ≡ pos 0 *ℤ pos (Q.integer (pos 0)).den = quotient_names (pos 0) 1 (omega arith)
        in omega (arith, ints, n)

pub least_of : (q : Rational) → is_at_least_zero q ≡ true → IsLeast q
least_of q h = least_by_sign q.num h

pub rational_strict : (q : Rational) → is_at_least_zero q ≡ true → is_at_least_zero (Q.minus q) ≡ true → q ≡ Q.integer (pos 0)
rational_strict q h k = null_from q (for_each q.num (Q.minus q).num q.den (Q.minus q).den q.positive (Q.minus q).positive
    (quotient_names (neg_ℤ q.num) q.den q.positive) (least_by_sign q.num h) (least_by_sign (Q.minus q).num k))
  where
    for_each : (a b : ℤ) (d e : ℕ) → 0 < d → 0 < e → b *ℤ pos d ≡ neg_ℤ a *ℤ pos e → pos 0 ≤ℤ a → pos 0 ≤ℤ b → a ≡ pos 0
    for_each (pos zero) b d e hd he q h k = refl
    for_each (pos (suc a)) (pos b) d e hd he q h k = absurd (omega (arith, ints, q, mul-pos (successor_some a) he))
      where
        successor_some : (a : ℕ) → 0 < suc a
        successor_some a = omega arith
    for_each (pos (suc a)) (negsuc b) d e hd he q h k = absurd (omega (arith, ints))
    for_each (negsuc a) b d e hd he q h k = absurd (omega (arith, ints))

pub rational_apart : Q.integer (pos 1) ≢ Q.integer (pos 0)
rational_apart e =
    let a : (Q.integer (pos 1)).num *ℤ pos 1 ≡ pos 1 *ℤ pos (Q.integer (pos 1)).den = quotient_names (pos 1) 1 (omega arith) in
    let b : (Q.integer (pos 0)).num *ℤ pos 1 ≡ pos 0 *ℤ pos (Q.integer (pos 0)).den = quotient_names (pos 0) 1 (omega arith) in
    parts_differ (Q.integer (pos 1)).num (Q.integer (pos 0)).num (Q.integer (pos 1)).den (Q.integer (pos 0)).den
    (Q.integer (pos 1)).positive a b (ap (λ q. q.num) e)
  where
    parts_differ : (m n : ℤ) (d e : ℕ) → 0 < d → m *ℤ pos 1 ≡ pos 1 *ℤ pos d → n *ℤ pos 1 ≡ pos 0 *ℤ pos e → m ≡ n → ⊥
    parts_differ m n d e h p q r = omega (arith, ints)

abbrev pub order_ℚ : Order ring_ℚ
order_ℚ = record {
  is_least = is_at_least_zero;
  inv = Q.inverse;
  add-least = λ a b h k. sign_of_least (Q.plus a b).num (plus_least a b (least_of a h) (least_of b k));
  mul-least = λ a b h k. sign_of_least (Q.times a b).num (times_least a b (least_of a h) (least_of b k));
  total = λ a. by_cases a (least_or_negation a.num);
  strict = rational_strict;
  apart = rational_apart;
  mul-inv = λ a n. times-inverse a (λ e. n (null_from a e));
}
  where
    by_cases : (a : Rational) → (pos 0 ≤ℤ a.num) ⊎ (pos 0 ≤ℤ neg_ℤ a.num) → (is_at_least_zero a ≡ true) ⊎ (is_at_least_zero (Q.minus a) ≡ true)
    by_cases a (inl h) = inl (sign_of_least a.num h)
    by_cases a (inr h) = inr (sign_of_least (Q.minus a).num (quotient_least (neg_ℤ a.num) a.den a.positive h))

abbrev pub field_ℚ : OrderedField Rational
field_ℚ = record { ring = ring_ℚ; order = order_ℚ }
