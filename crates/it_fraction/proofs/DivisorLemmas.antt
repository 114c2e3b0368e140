-- Greatest common divisors in the form in which code meets them, and a quotient in lowest terms by its parts.
use Rattle.std.proofs.Common.{◌≡◌, ℕ, ℤ, pos, ◌*ℤ◌, ◌*◌, ◌/◌, ◌<◌, ◌^◌, bit_or, arith, ◌⊎◌, inl, inr, sym, ap, refl, [], ◌∷◌, ◌∙◌, unsigned_abs}
use Rattle.std.proofs.lemmas.Nat.{le_or_l, le_or_r}
use Rattle.std.specs.Int.{IsGcd}
use Rattle.it_number.specs.Division.{int_quotient}
use Rattle.it_number.specs.Gcd.{gcd, lcm}
use Rattle.it_number.specs.Limit.{IsWithin}
use Rattle.it_number.proofs.Divisors.{gcd-one, one-gcd, gcd-pos, gcd_is, coprime_rest, gcd_below, lcm-over}
use Rattle.it_number.proofs.Quotients.{abs-over}
use Rattle.it_number.proofs.IntegerRing.{ring_ℤ}
use Rattle.it_number.proofs.Ring.{ring, v, times}
use Rattle.it_number.proofs.SignedDivisors.{over_back}
use Rattle.it_rational.specs.Rational.{quotient}
use Rattle.it_rational.proofs.Names.{quotient_is}
use Rattle.it_fraction.proofs.ProductLemmas.{rest_pos}
use native.Mathlib.Nat.{div-mul_cancel}

pub gcd_above : (a b : ℕ) → 0 < b → 0 < gcd a b
gcd_above a b h = gcd-pos a b h

pub gcd_of_one : (a b : ℕ) → (a ≡ 1) ⊎ (b ≡ 1) → gcd a b ≡ 1
gcd_of_one a b (inl e) = rw e (one-gcd b)
gcd_of_one a b (inr e) = rw e (gcd-one a)

pub gcd-within : (a b : ℤ) → IsWithin a → IsWithin b → IsWithin (pos (gcd (unsigned_abs a) (unsigned_abs b)))
gcd-within a b h k = gcd_below (unsigned_abs a) (unsigned_abs b) (2 ^ 127) h k

-- n / d over their greatest common divisor g
module _ (n : ℤ) (d g : ℕ) (h : 0 < d) (e : g ≡ gcd (unsigned_abs n) d) where
  gcd_law : IsGcd (unsigned_abs n) d g
  gcd_law = rw e (gcd_is (unsigned_abs n) d)

  pub reduced-some : 0 < d / g
  reduced-some = rest_pos d g gcd_law.1 h

  pub reduced-lowest : IsGcd (unsigned_abs (int_quotient n g)) (d / g) 1
  reduced-lowest = rw (abs-over n g) (coprime_rest (unsigned_abs n) d g (rw e (gcd-pos (unsigned_abs n) d h)) gcd_law)

  pub reduced-is : quotient (int_quotient n g) (d / g) ≡ quotient n d
  reduced-is =
      quotient_is (int_quotient n g) (int_quotient n g) (d / g) (d / g) reduced-some reduced-some reduced-lowest refl
      ∙ sym (quotient_is (int_quotient n g) n (d / g) d h reduced-some reduced-lowest cross_products)
    where
      law : (x p g : ℤ) → x *ℤ (p *ℤ g) ≡ (x *ℤ g) *ℤ p
      law x p g = ring ring_ℤ (x ∷ p ∷ g ∷ []) (times (v 0) (times (v 1) (v 2))) (times (times (v 0) (v 2)) (v 1)) refl

      cross_products : int_quotient n g *ℤ pos d ≡ n *ℤ pos (d / g)
      cross_products = ap (λ (m : ℕ). int_quotient n g *ℤ pos m) (sym (div-mul_cancel g gcd_law.1))
          ∙ law (int_quotient n g) (pos (d / g)) (pos g) ∙ ap (λ z. z *ℤ pos (d / g)) (over_back n g gcd_law.0)

-- a least common multiple as it is formed
pub lcm-formed : (a b left right shared rest : ℕ) → left ≡ a → right ≡ b → shared ≡ gcd left right → rest ≡ right / shared → left * rest ≡ lcm a b
lcm-formed a b left right shared rest l r s e = rw (e, s, l, r) (lcm-over a b)

-- numbers above 0 whose digits together are 1 are both 1
pub both_one : (b d : ℕ) → bit_or b d ≡ 1 → 0 < b → 0 < d → (b ≡ 1) × (d ≡ 1)
both_one b d e hb hd = (omega (arith, e, le_or_l b d), omega (arith, e, le_or_r b d))
