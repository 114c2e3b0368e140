-- The product of two fractions in lowest terms: common divisors of numerator and denominator across are divided out first.
use Rattle.std.proofs.Common.{◌≡◌, ℕ, zero, suc, ◌*◌, ◌/◌, ◌<◌, ℤ, pos, ◌*ℤ◌, unsigned_abs, [], ◌∷◌, refl, sym, ap₂, subst, ◌∙◌, ◌↔◌, arith, mul-pos}
use Rattle.std.proofs.lemmas.Int.{unsigned_abs-mul}
use Rattle.std.proofs.lemmas.Nat.Gcd.{IsGcd-swap, dvd_refl}
use Rattle.std.specs.Int.{IsGcd}
use Rattle.it_number.specs.Division.{int_quotient}
use Rattle.it_number.specs.Gcd.{gcd}
use Rattle.it_number.specs.Limit.{IsWithin}
use Rattle.it_number.proofs.Divisors.{gcd_is, IsGcd-pos, coprime_below, coprime_product, coprime_rest}
use Rattle.it_number.proofs.IntegerRing.{ring_ℤ}
use Rattle.it_number.proofs.Quotients.{abs-over}
use Rattle.it_number.proofs.Ring.{ring, v, times}
use Rattle.it_number.proofs.SignedDivisors.{over_back}
use Rattle.it_rational.specs.Rational.{quotient}
use Rattle.it_rational.proofs.Names.{quotient_is, quotient_parts}
use Rattle.it_fraction.specs.Fits.{IsNarrow}
use Prim.Native.Nat.{◌∣◌}
use native.Mathlib.Nat.{div-mul_cancel, dvd-mul_right_of_dvd}

-- a number divided by a divisor divides it
rest_divides : (a g : ℕ) → g ∣ a → a / g ∣ a
rest_divides a g h = subst (λ n. a / g ∣ n) (div-mul_cancel g h) (dvd-mul_right_of_dvd (a / g) (dvd_refl (a / g)) g)

-- the quotient of a number above 0 by a divisor is above 0
pub rest_pos : (a g : ℕ) → g ∣ a → 0 < a → 0 < a / g
rest_pos a g h p = quotient_some (a / g) (div-mul_cancel g h)
  where
    quotient_some : (k : ℕ) → k * g ≡ a → 0 < k
    quotient_some zero e = omega arith
    quotient_some (suc k) e = omega arith

-- the numerator and the denominator of the product
abbrev pub product_numerator : ℤ → ℕ → ℤ → ℕ → ℤ
product_numerator a b c d = int_quotient a (gcd (unsigned_abs a) d) *ℤ int_quotient c (gcd (unsigned_abs c) b)

abbrev pub product_denominator : ℤ → ℕ → ℤ → ℕ → ℕ
product_denominator a b c d = (b / gcd (unsigned_abs c) b) * (d / gcd (unsigned_abs a) d)

-- a / b and c / d in lowest terms
module _ (a : ℤ) (b : ℕ) (c : ℤ) (d : ℕ) (hb : 0 < b) (hd : 0 < d) (la : IsGcd (unsigned_abs a) b 1) (lc : IsGcd (unsigned_abs c) d 1) where
  abbrev g : ℕ
  g = gcd (unsigned_abs a) d

  abbrev h : ℕ
  h = gcd (unsigned_abs c) b

  g_is : IsGcd (unsigned_abs a) d g
  g_is = gcd_is (unsigned_abs a) d

  h_is : IsGcd (unsigned_abs c) b h
  h_is = gcd_is (unsigned_abs c) b

  pub product-some : 0 < product_denominator a b c d
  product-some = mul-pos (rest_pos b h h_is.1 hb) (rest_pos d g g_is.1 hd)

  pub product-lowest : IsGcd (unsigned_abs (product_numerator a b c d)) (product_denominator a b c d) 1
  product-lowest =
      let x : ℕ = unsigned_abs a / g in let y : ℕ = unsigned_abs c / h in
      let x_below = rest_divides (unsigned_abs a) g g_is.0 in let y_below = rest_divides (unsigned_abs c) h h_is.0 in
      let b_below = rest_divides b h h_is.1 in let d_below = rest_divides d g g_is.1 in
      let xb : IsGcd x (b / h) 1 = coprime_below (unsigned_abs a) b x (b / h) la x_below b_below in
      let yd : IsGcd y (d / g) 1 = coprime_below (unsigned_abs c) d y (d / g) lc y_below d_below in
      let xd : IsGcd x (d / g) 1 = coprime_rest (unsigned_abs a) d g (IsGcd-pos (unsigned_abs a) d g hd g_is) g_is in
      let yb : IsGcd y (b / h) 1 = coprime_rest (unsigned_abs c) b h (IsGcd-pos (unsigned_abs c) b h hb h_is) h_is in
      rw (unsigned_abs-mul (int_quotient a g) (int_quotient c h), abs-over a g, abs-over c h)
      (coprime_product x y ((b / h) * (d / g)) (product_coprime x (b / h) (d / g) xb xd) (product_coprime y (b / h) (d / g) yb yd))
    where
      product_coprime : (x p q : ℕ) → IsGcd x p 1 → IsGcd x q 1 → IsGcd x (p * q) 1
      product_coprime x p q e f = IsGcd-swap (p * q) x 1 (coprime_product p q x (IsGcd-swap x p 1 e) (IsGcd-swap x q 1 f))

  cross_products : product_numerator a b c d *ℤ pos (b * d) ≡ (a *ℤ c) *ℤ pos (product_denominator a b c d)
  cross_products =
      ap₂ (λ (m n : ℕ). product_numerator a b c d *ℤ pos (m * n)) (sym (div-mul_cancel h h_is.1)) (sym (div-mul_cancel g g_is.1))
      ∙ law (int_quotient a g) (int_quotient c h) (pos (b / h)) (pos (d / g)) (pos g) (pos h)
      ∙ ap₂ (λ (x y : ℤ). (x *ℤ y) *ℤ pos (product_denominator a b c d)) (over_back a g g_is.0) (over_back c h h_is.0)
    where
      law : (x y p q g h : ℤ) → (x *ℤ y) *ℤ ((p *ℤ h) *ℤ (q *ℤ g)) ≡ ((x *ℤ g) *ℤ (y *ℤ h)) *ℤ (p *ℤ q)
      law x y p q g h = ring ring_ℤ (x ∷ y ∷ p ∷ q ∷ g ∷ h ∷ [])
          (times (times (v 0) (v 1)) (times (times (v 2) (v 5)) (times (v 3) (v 4))))
          (times (times (times (v 0) (v 4)) (times (v 1) (v 5))) (times (v 2) (v 3))) refl

  pub product-is : quotient (product_numerator a b c d) (product_denominator a b c d) ≡ quotient (a *ℤ c) (b * d)
  product-is =
      quotient_is (product_numerator a b c d) (product_numerator a b c d) (product_denominator a b c d)
      (product_denominator a b c d) product-some product-some product-lowest refl
      ∙ sym (quotient_is (product_numerator a b c d) (a *ℤ c) (product_denominator a b c d) (b * d) (mul-pos hb hd) product-some product-lowest cross_products)

  pub product-narrow : IsNarrow (quotient (a *ℤ c) (b * d)) ↔ (IsWithin (product_numerator a b c d) × IsWithin (pos (product_denominator a b c d)))
  product-narrow =
      let parts = quotient_parts (product_numerator a b c d) (a *ℤ c) (product_denominator a b c d) (b * d)
      (mul-pos hb hd) product-some product-lowest cross_products in
      rw (parts.0, parts.1) (λ p. p, λ p. p)
