-- The rational numbers, as records in lowest terms, so that equal numbers are equal records.
use Rattle.std.specs.Prelude.{◌≡◌, ℕ, zero, suc, ◌*◌, ◌/◌, ◌<◌, Bool, true, false, ℤ, pos, negsuc, ◌+ℤ◌, ◌*ℤ◌, neg_ℤ, unsigned_abs}
use Rattle.std.specs.Int.{IsGcd}
use Rattle.std.specs.Ordering.{int_cmp}
use Rattle.std.specs.declared.cmp.Ordering.{Ordering}
use Rattle.it_number.specs.Gcd.{gcd}
use Rattle.it_number.specs.Division.{int_quotient}
use Rattle.it_number.proofs.Quotients.{rest_pos, rest_lowest, one_pos, one_lowest}

-- a rational number, in lowest terms
pub record Rational : Type 0 where
  pub num : ℤ
  pub den : ℕ
  pub positive : 0 < den
  pub lowest : IsGcd (unsigned_abs num) den 1

-- n / d in lowest terms; 0 where d is 0
unfoldable pub quotient : ℤ → ℕ → Rational
quotient n zero = record { num = pos 0; den = 1; positive = one_pos; lowest = one_lowest }
quotient n (suc d) = record {
  num = int_quotient n (gcd (unsigned_abs n) (suc d));
  den = suc d / gcd (unsigned_abs n) (suc d);
  positive = rest_pos n d;
  lowest = rest_lowest n d;
}

-- a whole number as a rational one
abbrev pub integer : ℤ → Rational
integer n = quotient n 1

-- the sum
abbrev pub plus : Rational → Rational → Rational
plus a b = quotient (a.num *ℤ pos b.den +ℤ b.num *ℤ pos a.den) (a.den * b.den)

-- the product
abbrev pub times : Rational → Rational → Rational
times a b = quotient (a.num *ℤ b.num) (a.den * b.den)

-- the negation
abbrev pub minus : Rational → Rational
minus a = quotient (neg_ℤ a.num) a.den

-- n / d in lowest terms, for a signed d; 0 where d is 0
abbrev pub signed_quotient : ℤ → ℤ → Rational
signed_quotient n (pos d) = quotient n d
signed_quotient n (negsuc d) = quotient (neg_ℤ n) (suc d)

-- 1 / a; 0 where a is 0
abbrev pub inverse : Rational → Rational
inverse a = signed_quotient (pos a.den) a.num

-- the order of the rationals
abbrev pub rational_cmp : Rational → Rational → Ordering
rational_cmp a b = int_cmp (a.num *ℤ pos b.den) (b.num *ℤ pos a.den)

-- whether a whole number is at least 0
abbrev pub sign_least : ℤ → Bool
sign_least (pos n) = true
sign_least (negsuc n) = false

-- whether a rational number is at least 0
abbrev pub is_at_least_zero : Rational → Bool
is_at_least_zero q = sign_least q.num

-- q is n / d
abbrev pub IsRatio : Rational → ℤ → ℕ → Type 0
IsRatio q n d = q.num *ℤ pos d ≡ n *ℤ pos q.den
