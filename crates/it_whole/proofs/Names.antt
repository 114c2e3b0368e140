-- Names of rational numbers: q is n / d. What follows for signs, negations, inverses, quotients and products.
use Rattle.std.proofs.Common.{◌≡◌, ℕ, zero, suc, ◌*◌, ◌<◌, ℤ, pos, negsuc, ◌+ℤ◌, ◌*ℤ◌, ◌<ℤ◌, neg_ℤ, [], ◌∷◌, refl, sym, ap, subst, ◌∙◌, arith, mul-pos}
use Rattle.std.proofs.lemmas.Int.{ints}
use Rattle.std.proofs.Math.Nat.{mul_comm}
use Rattle.it_number.proofs.Integers.{zring}
use Rattle.it_number.proofs.Ring.{ring, v, times}
use Rattle.it_number.proofs.IntegerRing.{ring_ℤ}
use Rattle.it_rational.specs.Rational.{Rational, sign_least, is_at_least_zero, IsRatio}
use Rattle.it_rational.specs.Rational as Q
use Rattle.it_rational.proofs.Field.{null_from, sign_of_least}
use Rattle.it_rational.proofs.Names.{cancel_factor, plus_names, quotient_names, times_names}
use Rattle.it_rational.proofs.Order.{sign_kept}
use Rattle.it_rational.proofs.Signs.{below_sign}

-- the sign of n / d is that of n
pub sign_named : (q : Rational) (n : ℤ) (d : ℕ) → 0 < d → IsRatio q n d → is_at_least_zero q ≡ sign_least n
sign_named q (pos n) d h e = sign_of_least q.num (sign_kept q.num (pos n) d q.den h q.positive e (omega (arith, ints)))
sign_named q (negsuc n) d h e = below_sign q (by_sign q.num e)
  where
    product_some : (n k : ℕ) → 0 < k → 0 < suc n * k
    product_some n k h = mul-pos (omega arith) h

    by_sign : (z : ℤ) → z *ℤ pos d ≡ negsuc n *ℤ pos q.den → z <ℤ pos 0
    by_sign (pos k) e = absurd (omega (arith, ints, e, product_some n q.den q.positive))
    by_sign (negsuc k) e = omega (arith, ints)

pub minus_names : (q : Rational) (n : ℤ) (d : ℕ) → IsRatio q n d → IsRatio (Q.minus q) (neg_ℤ n) d
minus_names y k l e = cancel_factor ((Q.minus y).num *ℤ pos l) (neg_ℤ k *ℤ pos (Q.minus y).den) y.den y.positive
    (products_agree (Q.minus y).num y.num k (pos l) (pos y.den) (pos (Q.minus y).den) (quotient_names (neg_ℤ y.num) y.den y.positive) e)
  where
    products_agree : (a b k l d f : ℤ) → a *ℤ d ≡ neg_ℤ b *ℤ f → b *ℤ l ≡ k *ℤ d → (a *ℤ l) *ℤ d ≡ (neg_ℤ k *ℤ f) *ℤ d
    products_agree a b k l d f p q = omega (arith, zring, ap (λ z. z *ℤ l) p, ap (λ z. z *ℤ f) q)

pub factors_join : (x : ℤ) (d k : ℕ) → (x *ℤ pos d) *ℤ pos k ≡ x *ℤ pos (d * k)
factors_join x d k = omega (arith, zring)

-- a name with a factor
pub scaled_name : (q : Rational) (n : ℤ) (d k : ℕ) → IsRatio q n d → IsRatio q (n *ℤ pos k) (d * k)
scaled_name q n d k e = sym (factors_join q.num d k) ∙ ap (λ z. z *ℤ pos k) e ∙ omega (arith, zring)

-- and without one
pub reduced_name : (q : Rational) (n : ℤ) (d k : ℕ) → 0 < k → IsRatio q (n *ℤ pos k) (d * k) → IsRatio q n d
reduced_name q n d k h e = cancel_factor (q.num *ℤ pos d) (n *ℤ pos q.den) k h (factors_join q.num d k ∙ e ∙ omega (arith, zring))

-- 1 over p / d is d / p
pub inverse_names : (q : Rational) (p d : ℕ) → 0 < p → 0 < d → IsRatio q (pos p) d → IsRatio (Q.inverse q) (pos d) p
inverse_names q p d hp hd e = by_sign q.num refl
  where
    by_sign : (z : ℤ) → q.num ≡ z → IsRatio (Q.signed_quotient (pos q.den) z) (pos d) p
    by_sign (pos zero) f = absurd (not_zero p q.den d hp q.positive (ap (λ x. x *ℤ pos d) (sym f) ∙ e))
      where
        not_zero : (p a d : ℕ) → 0 < p → 0 < a → pos 0 *ℤ pos d ≡ pos p *ℤ pos a → ⊥
        not_zero p a d h k e = omega (arith, ints, e, mul-pos h k)
    by_sign (pos (suc a)) f = cancel_factor ((Q.quotient (pos q.den) (suc a)).num *ℤ pos p)
        (pos d *ℤ pos (Q.quotient (pos q.den) (suc a)).den) (suc a) (omega arith)
        (products_agree (Q.quotient (pos q.den) (suc a)).num (pos (suc a)) (pos q.den) (pos (Q.quotient (pos q.den) (suc a)).den) (pos p) (pos d)
        (quotient_names (pos q.den) (suc a) (omega arith)) (ap (λ x. x *ℤ pos d) (sym f) ∙ e))
      where
        products_agree : (x a b y p d : ℤ) → x *ℤ a ≡ b *ℤ y → a *ℤ d ≡ p *ℤ b → (x *ℤ p) *ℤ a ≡ (d *ℤ y) *ℤ a
        products_agree x a b y p d e f =
            ring ring_ℤ (x ∷ a ∷ p ∷ []) (times (times (v 0) (v 2)) (v 1)) (times (times (v 0) (v 1)) (v 2)) refl
            ∙ ap (λ z. z *ℤ p) e
            ∙ ring ring_ℤ (b ∷ y ∷ p ∷ []) (times (times (v 0) (v 1)) (v 2)) (times (times (v 2) (v 0)) (v 1)) refl
            ∙ ap (λ z. z *ℤ y) (sym f)
            ∙ ring ring_ℤ (a ∷ d ∷ y ∷ []) (times (times (v 0) (v 1)) (v 2)) (times (times (v 1) (v 2)) (v 0)) refl
    by_sign (negsuc a) f = absurd (not_negative a p q.den d hp q.positive (ap (λ x. x *ℤ pos d) (sym f) ∙ e))
      where
        not_negative : (a p b d : ℕ) → 0 < p → 0 < b → negsuc a *ℤ pos d ≡ pos p *ℤ pos b → ⊥
        not_negative a p b d h k e = omega (arith, ints, e, mul-pos h k)

-- (n / d) / (p / e) is n e / (d p)
pub quotient_of_names : (x y : Rational) (n : ℤ) (p d e : ℕ) → 0 < d → 0 < e → 0 < p → IsRatio x n d → IsRatio y (pos p) e
    → IsRatio (Q.times x (Q.inverse y)) (n *ℤ pos e) (d * p)
quotient_of_names x y n p d e hd he hp f g = times_names x (Q.inverse y) n (pos e) d p hd hp f (inverse_names y p e hp he g)

-- over one denominator it is n / p
pub quotient_in_row : (x y : Rational) (n : ℤ) (p d : ℕ) → 0 < d → 0 < p → IsRatio x n d → IsRatio y (pos p) d → IsRatio (Q.times x (Q.inverse y)) n p
quotient_in_row x y n p d hd hp f g = reduced_name (Q.times x (Q.inverse y)) n p d hd
    (subst (λ (k : ℕ). IsRatio (Q.times x (Q.inverse y)) (n *ℤ pos d) k) (mul_comm d p) (quotient_of_names x y n p d d hd hd hp f g))

-- (a / d) ((b / e) / (p / d)) is a b / (e p)
pub product_in_row : (y x w : Rational) (a b : ℤ) (p d e : ℕ) → 0 < d → 0 < e → 0 < p → IsRatio y a d → IsRatio x b e → IsRatio w (pos p) d
    → IsRatio (Q.times y (Q.times x (Q.inverse w))) (a *ℤ b) (e * p)
product_in_row y x w a b p d e hd he hp f g h =
    reduced_name (Q.times y (Q.times x (Q.inverse w))) (a *ℤ b) (e * p) d hd
    (subst (λ (k : ℕ). IsRatio (Q.times y (Q.times x (Q.inverse w))) ((a *ℤ b) *ℤ pos d) k) (mul_comm d (e * p))
    (subst (λ (z : ℤ). IsRatio (Q.times y (Q.times x (Q.inverse w))) z (d * (e * p))) (assoc a b (pos d))
    (times_names y (Q.times x (Q.inverse w)) a (b *ℤ pos d) d (e * p) hd (mul-pos he hp) f (quotient_of_names x w b p e d he hd hp g h))))
  where
    assoc : (a b c : ℤ) → a *ℤ (b *ℤ c) ≡ (a *ℤ b) *ℤ c
    assoc a b c = omega (arith, zring)

-- 0 / d is 0
pub null_named : (q : Rational) (d : ℕ) → 0 < d → IsRatio q (pos 0) d → q ≡ Q.integer (pos 0)
null_named q d h e = null_from q (cancel_factor q.num (pos 0) d h (e ∙ zero_products q.den d))
  where
    zero_products : (a d : ℕ) → pos 0 *ℤ pos a ≡ pos 0 *ℤ pos d
    zero_products a d = omega (arith, ints)

-- where it is 0, the number is
pub number_null : (z : ℤ) (q : Rational) (d : ℕ) → IsRatio q z d → q.num ≡ pos 0 → z ≡ pos 0
number_null z q d e f = cancel_factor z (pos 0) q.den q.positive (sym e ∙ ap (λ x. x *ℤ pos d) f ∙ zero_products d q.den)
  where
    zero_products : (a b : ℕ) → pos 0 *ℤ pos a ≡ pos 0 *ℤ pos b
    zero_products a b = omega (arith, ints)

-- n / d plus k / d
pub sum_named : (x y : Rational) (n k : ℤ) (d : ℕ) → 0 < d → IsRatio x n d → IsRatio y k d → IsRatio (Q.plus x y) (n +ℤ k) d
sum_named x y n k d h e f = reduced_name (Q.plus x y) (n +ℤ k) d d h
    (subst (λ (z : ℤ). IsRatio (Q.plus x y) z (d * d)) (factor_moves_out n k d) (plus_names x y n k d d h h e f))
  where
    factor_moves_out : (n k : ℤ) (d : ℕ) → n *ℤ pos d +ℤ k *ℤ pos d ≡ (n +ℤ k) *ℤ pos d
    factor_moves_out n k d = omega (arith, zring)
