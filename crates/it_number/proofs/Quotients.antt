-- Lemmas for the definition of a quotient in lowest terms.
use Rattle.std.proofs.Common.{◌≡◌, ℕ, zero, suc, ◌*◌, ◌/◌, ◌<◌, ℤ, pos, negsuc, neg_ℤ, unsigned_abs, refl, arith, lit<}
use Rattle.std.specs.Int.{IsGcd}
use Rattle.it_number.specs.Division.{int_quotient}
use Rattle.it_number.specs.Gcd.{gcd}
use Rattle.it_number.proofs.Divisors.{gcd_is, IsGcd-pos, coprime_rest}
use native.Mathlib.Nat.{dvd-zero, one-dvd, div-mul_cancel}

pub one_pos : 0 < 1
one_pos = lit< tt

pub one_lowest : IsGcd 0 1 1
one_lowest = (dvd-zero 1, one-dvd 1, λ d p q. q)

pub abs-over : (n : ℤ) (g : ℕ) → unsigned_abs (int_quotient n g) ≡ unsigned_abs n / g
abs-over (pos n) g = refl
abs-over (negsuc n) g = abs_neg (suc n / g)
  where
    abs_neg : (k : ℕ) → unsigned_abs (neg_ℤ (pos k)) ≡ k
    abs_neg zero = refl
    abs_neg (suc k) = refl

pub rest_pos : (n : ℤ) (d : ℕ) → 0 < suc d / gcd (unsigned_abs n) (suc d)
rest_pos n d =
    let g : IsGcd (unsigned_abs n) (suc d) (gcd (unsigned_abs n) (suc d)) = gcd_is (unsigned_abs n) (suc d) in
    rest_some (suc d / gcd (unsigned_abs n) (suc d)) (div-mul_cancel (gcd (unsigned_abs n) (suc d)) g.1)
  where
    rest_some : (k : ℕ) → k * gcd (unsigned_abs n) (suc d) ≡ suc d → 0 < k
    rest_some zero e = omega arith
    rest_some (suc k) e = omega arith

pub rest_lowest : (n : ℤ) (d : ℕ) → IsGcd (unsigned_abs (int_quotient n (gcd (unsigned_abs n) (suc d)))) (suc d / gcd (unsigned_abs n) (suc d)) 1
rest_lowest n d = rw (abs-over n (gcd (unsigned_abs n) (suc d)))
    (coprime_rest (unsigned_abs n) (suc d) (gcd (unsigned_abs n) (suc d))
    (IsGcd-pos (unsigned_abs n) (suc d) _ (omega arith) (gcd_is (unsigned_abs n) (suc d))) (gcd_is (unsigned_abs n) (suc d)))
