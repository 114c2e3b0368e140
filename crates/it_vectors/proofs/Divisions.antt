-- Common divisors of the numbers of a row.
use Rattle.std.proofs.Common.{◌≡◌, ◌⊎◌, inl, inr, ℕ, ◌+◌, ◌*◌, ◌/◌, ◌<◌, ◌≤◌, ℤ, pos, negsuc, ◌*ℤ◌, unsigned_abs, List, sym, ap, subst, ◌∙◌, FitsSigned, w32, arith}
use Rattle.std.proofs.lemmas.Nat.Gcd.{dvd_trans, dvd_refl, dvd_antisymm}
use Rattle.std.proofs.Math.Nat.{dvd-mul_left, le-mul_of_pos_right, mul-div_cancel}
use Rattle.std.proofs.lemmas.Bool.{cases_eq}
use Rattle.std.proofs.lemmas.Int.{ints, unsigned_abs-mul}
use Rattle.it_number.proofs.Integers.{zring}
use Rattle.it_number.specs.Gcd.{gcd}
use Rattle.it_number.specs.Division.{int_quotient}
use Rattle.it_number.proofs.SignedDivisors.{over_back}
use Rattle.it_number.proofs.Divisors.{gcd_is}
use Rattle.it_space.specs.Sums.{number_at}
use Prim.Native.Nat.{◌∣◌}
use native.Mathlib.Nat.{pos_of_dvd_of_pos}

-- shared divides the first k numbers and the denominator
pub record DividesUpTo (shared denominator : ℕ) (numbers : List ℤ) (k : ℕ) : Type 0 where
  pub some : 0 < shared
  pub denominator_is : shared ∣ denominator
  pub numbers_are : (j : ℕ) → j < k → shared ∣ unsigned_abs (number_at numbers j)

pub divides_more : (numbers : List ℤ) (denominator shared next : ℕ) (z : ℤ) (k : ℕ) → next ≡ gcd (unsigned_abs z) shared → z ≡ number_at numbers k
    → DividesUpTo shared denominator numbers k → DividesUpTo next denominator numbers (k + 1)
divides_more numbers denominator shared next z k e f d = subst (λ (n : ℕ). DividesUpTo n denominator numbers (k + 1)) (sym e) record {
  some = pos_of_dvd_of_pos (gcd_is (unsigned_abs z) shared).1 d.some;
  denominator_is = dvd_trans (gcd (unsigned_abs z) shared) (gcd_is (unsigned_abs z) shared).1 d.denominator_is;
  numbers_are = λ j l. by_cases j l (cases_eq j k);
}
  where
    by_cases : (j : ℕ) → j < k + 1 → (j ≡ k) ⊎ (j ≡ k → ⊥) → gcd (unsigned_abs z) shared ∣ unsigned_abs (number_at numbers j)
    by_cases j l (inl q) = subst (λ (y : ℤ). gcd (unsigned_abs z) shared ∣ unsigned_abs y) (f ∙ ap (number_at numbers) (sym q))
        (gcd_is (unsigned_abs z) shared).0
    by_cases j l (inr n) = dvd_trans (gcd (unsigned_abs z) shared) (gcd_is (unsigned_abs z) shared).1 (d.numbers_are j (omega arith))

pub whole_over : (z y : ℤ) (k : ℕ) → k ∣ unsigned_abs z → y ≡ int_quotient z k → y *ℤ pos k ≡ z
whole_over z y k h e = ap (λ x. x *ℤ pos k) e ∙ over_back z k h

-- a number that is a multiple of k has k as its greatest common divisor with k
pub gcd_of_multiple : (q k size : ℕ) → q * k ≡ size → gcd size k ≡ k
gcd_of_multiple q k size e = dvd_antisymm (gcd_is size k).1 ((gcd_is size k).2 k (subst (λ (n : ℕ). k ∣ n) e (dvd-mul_left k q)) (dvd_refl k))

-- and the factor is the quotient
pub factor_is_quotient : (q k size : ℕ) → 0 < k → q * k ≡ size → q ≡ size / k
factor_is_quotient q k size h e = sym (mul-div_cancel q h) ∙ ap (λ n. n / k) e

-- a quotient of a number in 32 bits fits 32 bits
pub quotient_fits : (q z : ℤ) (d : ℕ) → 0 < d → q *ℤ pos d ≡ z → FitsSigned w32 z → FitsSigned w32 q
quotient_fits q z d h e f = by_signs q z e f (size_at_most q z e)
  where
    size_at_most : (q z : ℤ) → q *ℤ pos d ≡ z → unsigned_abs q ≤ unsigned_abs z
    size_at_most q z e = let s : unsigned_abs q * d ≡ unsigned_abs z = sym (unsigned_abs-mul q (pos d)) ∙ ap unsigned_abs e
        in omega (arith, s, le-mul_of_pos_right (unsigned_abs q) h)

    product : (n : ℕ) → pos (n * d) ≡ pos n *ℤ pos d
    product n = omega (arith, zring)

    by_signs : (q z : ℤ) → q *ℤ pos d ≡ z → FitsSigned w32 z → unsigned_abs q ≤ unsigned_abs z → FitsSigned w32 q
    by_signs (pos n) (pos m) e f l = record { sfits = let s : m < 2147483648 = f.sfits in omega (arith, s, l) }
    by_signs (pos n) (negsuc m) e f l = let a : pos (n * d) ≡ negsuc m = product n ∙ e in absurd (omega (arith, ints, a))
    by_signs (negsuc n) (pos m) e f l = record { sfits = let s : m < 2147483648 = f.sfits in omega (arith, s, l) }
    by_signs (negsuc n) (negsuc m) e f l = record { sfits = let s : m < 2147483648 = f.sfits in omega (arith, s, l) }
