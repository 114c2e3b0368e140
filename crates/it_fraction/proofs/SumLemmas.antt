-- The sum of two fractions in lowest terms, over the greatest common divisor of their denominators.
use Rattle.std.proofs.Common.{◌≡◌, ℕ, zero, suc, ◌*◌, ◌/◌, ◌<◌, ℤ, pos, ◌+ℤ◌, ◌*ℤ◌, unsigned_abs, [], ◌∷◌, refl, sym, ap, ap₂, ◌∙◌, arith, mul-pos}
use Rattle.std.specs.Int.{IsGcd}
use Rattle.it_number.specs.Gcd.{gcd}
use Rattle.it_rational.specs.Rational.{quotient}
use Rattle.it_number.proofs.Ring.{ring, v, plus, times}
use Rattle.it_number.proofs.IntegerRing.{ring_ℤ}
use Rattle.it_number.proofs.Divisors.{gcd_is, IsGcd-pos}
use Rattle.it_number.proofs.SignedDivisors.{sum_lowest, over_back}
use Rattle.std.proofs.lemmas.Nat.Gcd.{dvd_trans}
use Rattle.it_number.specs.Division.{int_quotient}
use Rattle.it_rational.proofs.Names.{cancel_factor, quotient_is}
use Rattle.it_fraction.specs.Fits.{PartsFit, common_numerator, shared_rest}
use Rattle.it_number.specs.Limit.{IsWithin}
use Rattle.it_number.proofs.Quotients.{abs-over}
use native.Mathlib.Nat.{div-mul_cancel}
use native.Mathlib.Nat.{div-le_self}

-- the parts that the sum over the shared divisor forms are those of the sum
sum_across : (a c : ℤ) (b d g b' d' g' : ℕ) → 0 < g → 0 < g' → b' * g ≡ b → d' * g ≡ d → (d / g') * g' ≡ d → (t : ℤ)
    → t ≡ a *ℤ pos d' +ℤ c *ℤ pos b' → int_quotient t g' *ℤ pos g' ≡ t
    → int_quotient t g' *ℤ pos (b * d) ≡ (a *ℤ pos d +ℤ c *ℤ pos b) *ℤ pos (b' * (d / g'))
sum_across a c b d g b' d' g' some some' eb ed e t et back = cancel_factor (int_quotient t g' *ℤ pos (b * d))
    ((a *ℤ pos d +ℤ c *ℤ pos b) *ℤ pos (b' * (d / g'))) g' some'
    (factors_swap (int_quotient t g') (pos b) (pos d) (pos g') ∙ ap (λ x. x *ℤ (pos b *ℤ pos d)) (back ∙ et)
    ∙ ap (λ n. (a *ℤ pos d' +ℤ c *ℤ pos b') *ℤ (pos n *ℤ pos d)) (sym eb)
    ∙ sums_cross a c (pos b') (pos d') (pos g) (pos d)
    ∙ ap (λ n. (a *ℤ pos n +ℤ c *ℤ (pos b' *ℤ pos g)) *ℤ (pos b' *ℤ pos d)) ed ∙ ap₂ (λ n m. (a *ℤ pos d +ℤ c *ℤ pos n) *ℤ (pos b' *ℤ pos m)) eb (sym e)
    ∙ factors_join (a *ℤ pos d +ℤ c *ℤ pos b) (pos b') (pos (d / g')) (pos g'))
  where
    factors_swap : (n b d g : ℤ) → (n *ℤ (b *ℤ d)) *ℤ g ≡ (n *ℤ g) *ℤ (b *ℤ d)
    factors_swap n b d g = ring ring_ℤ (n ∷ b ∷ d ∷ g ∷ []) (times (times (v 0) (times (v 1) (v 2))) (v 3)) (times (times (v 0) (v 3)) (times (v 1) (v 2))) refl

    sums_cross : (a c b' d' g d : ℤ) → (a *ℤ d' +ℤ c *ℤ b') *ℤ ((b' *ℤ g) *ℤ d) ≡ (a *ℤ (d' *ℤ g) +ℤ c *ℤ (b' *ℤ g)) *ℤ (b' *ℤ d)
    sums_cross a c b' d' g d = ring ring_ℤ (a ∷ c ∷ b' ∷ d' ∷ g ∷ d ∷ [])
        (times (plus (times (v 0) (v 3)) (times (v 1) (v 2))) (times (times (v 2) (v 4)) (v 5)))
        (times (plus (times (v 0) (times (v 3) (v 4))) (times (v 1) (times (v 2) (v 4)))) (times (v 2) (v 5))) refl

    factors_join : (s b' e g : ℤ) → s *ℤ (b' *ℤ (e *ℤ g)) ≡ (s *ℤ (b' *ℤ e)) *ℤ g
    factors_join s b' e g = ring ring_ℤ (s ∷ b' ∷ e ∷ g ∷ []) (times (v 0) (times (v 1) (times (v 2) (v 3))))
        (times (times (v 0) (times (v 1) (v 2))) (v 3)) refl

-- n / e are the parts of the sum of a / b and c / d: above 0, in lowest terms, and equal to it
pub record AreParts (a : ℤ) (b : ℕ) (c : ℤ) (d : ℕ) (n : ℤ) (e : ℕ) : Type 0 where
  pub some : 0 < e
  pub lowest : IsGcd (unsigned_abs n) e 1
  pub sum_is : quotient n e ≡ quotient (a *ℤ pos d +ℤ c *ℤ pos b) (b * d)

pub sum_parts : (a : ℤ) (b : ℕ) (c : ℤ) (d : ℕ) → 0 < b → 0 < d → IsGcd (unsigned_abs a) b 1 → IsGcd (unsigned_abs c) d 1
    → AreParts a b c d (int_quotient (common_numerator a b c d) (shared_rest a b c d)) ((b / gcd b d) * (d / shared_rest a b c d))
sum_parts a b c d hb hd la lc =
    let g = gcd b d in let is = gcd_is b d in
    let t : ℤ = common_numerator a b c d in
    let g' = shared_rest a b c d in let it = gcd_is (unsigned_abs t) g in
    let some = IsGcd-pos b d g hd is in let some' = IsGcd-pos (unsigned_abs t) g g' some it in
    let low = sum_lowest a c b d g (b / g) (d / g) g' hd la lc is refl refl t refl it in
    let eb : (b / g) * g ≡ b = div-mul_cancel g is.0 in
    let ed : (d / g) * g ≡ d = div-mul_cancel g is.1 in
    let e : (d / g') * g' ≡ d = div-mul_cancel g' (dvd_trans g' it.1 is.1) in
    let pos_den : 0 < (b / g) * (d / g') = mul-pos (positive_factor (b / g) g b hb eb) (positive_factor (d / g') g' d hd e) in
    let N = int_quotient t g' in let D = (b / g) * (d / g') in
    record {
      some = pos_den;
      lowest = low;
      sum_is = quotient_is N N D D pos_den pos_den low refl ∙ sym (quotient_is N (a *ℤ pos d +ℤ c *ℤ pos b) D (b * d) (mul-pos hb hd) pos_den low
          (sum_across a c b d g (b / g) (d / g) g' some some' eb ed e t refl (over_back t g' it.0)));
    }
  where
    positive_factor : (k g b : ℕ) → 0 < b → k * g ≡ b → 0 < k
    positive_factor zero g b h e = omega arith
    positive_factor (suc k) g b h e = omega arith

-- a quotient is no wider than what is divided
pub over-within : (t : ℤ) (k : ℕ) → IsWithin t → IsWithin (int_quotient t k)
over-within t k h = rw (abs-over t k) (omega (arith, div-le_self (unsigned_abs t) k))

-- the numbers of the sum, as they are formed one after the other
pub record AreSteps (a : ℤ) (b : ℕ) (c : ℤ) (d : ℕ) (left right sum : ℤ) (rest : ℕ) : Type 0 where
  pub left_is : left ≡ a *ℤ pos (d / gcd b d)
  pub right_is : right ≡ c *ℤ pos (b / gcd b d)
  pub sum_is : sum ≡ left +ℤ right
  pub rest_is : rest ≡ gcd (unsigned_abs sum) (gcd b d)

module _ (a : ℤ) (b : ℕ) (c : ℤ) (d : ℕ) (left right sum : ℤ) (rest denominator : ℕ) (s : AreSteps a b c d left right sum rest) where
  -- they lead to the parts of the sum
  pub steps-parts : denominator ≡ (b / gcd b d) * (d / rest) → 0 < b → 0 < d → IsGcd (unsigned_abs a) b 1 → IsGcd (unsigned_abs c) d 1
      → AreParts a b c d (int_quotient sum rest) denominator
  steps-parts e hb hd la lc = rw (e, s.rest_is, s.sum_is, s.left_is, s.right_is) (sum_parts a b c d hb hd la lc)

  -- and the sum fits where they do
  pub steps-fit : denominator ≡ (b / gcd b d) * (d / rest) → IsWithin left → IsWithin right → IsWithin sum → IsWithin (pos denominator) → PartsFit a b c d
  steps-fit e wl wr wt wb =
      record {
        left = rw (← s.left_is) wl;
        right = rw (← s.right_is) wr;
        total = rw (← s.left_is, ← s.right_is, ← s.sum_is) wt;
        denominator = rw (← s.left_is, ← s.right_is, ← s.sum_is, ← s.rest_is, ← e) wb;
      }

pub fit-denominator : (a : ℤ) (b : ℕ) (c : ℤ) (d : ℕ) (left right sum : ℤ) (rest : ℕ) → AreSteps a b c d left right sum rest → PartsFit a b c d
    → IsWithin (pos ((b / gcd b d) * (d / rest)))
fit-denominator a b c d left right sum rest s fit = rw (s.rest_is, s.sum_is, s.left_is, s.right_is) fit.denominator
