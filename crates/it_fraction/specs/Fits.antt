-- Where the operations on fractions fit: the numbers that each of them forms are within the limit.
use Rattle.std.specs.Prelude.{ℕ, ◌*◌, ◌/◌, ℤ, pos, ◌+ℤ◌, ◌*ℤ◌, unsigned_abs}
use Rattle.it_number.specs.Gcd.{gcd}
use Rattle.it_number.specs.Limit.{IsWithin}
use Rattle.it_rational.specs.Rational.{Rational, minus}

-- the numerator and the denominator of q are within the limit
abbrev pub IsNarrow : Rational → Type 0
IsNarrow q = IsWithin q.num × IsWithin (pos q.den)

-- The sum of a / b and c / d, with g the greatest common divisor of b and d (Knuth, The Art of Computer Programming
-- vol. 2, 4.5.1): its numerator over the least common denominator is t = a (d / g) + c (b / g)
abbrev pub common_numerator : ℤ → ℕ → ℤ → ℕ → ℤ
common_numerator a b c d = a *ℤ pos (d / gcd b d) +ℤ c *ℤ pos (b / gcd b d)

-- the greatest common divisor of t and g, and so of t and the least common denominator
abbrev pub shared_rest : ℤ → ℕ → ℤ → ℕ → ℕ
shared_rest a b c d = gcd (unsigned_abs (common_numerator a b c d)) (gcd b d)

-- the four numbers that this sum forms are within the limit
pub record PartsFit (a : ℤ) (b : ℕ) (c : ℤ) (d : ℕ) : Type 0 where
  pub left : IsWithin (a *ℤ pos (d / gcd b d))
  pub right : IsWithin (c *ℤ pos (b / gcd b d))
  pub total : IsWithin (common_numerator a b c d)
  pub denominator : IsWithin (pos ((b / gcd b d) * (d / shared_rest a b c d)))

-- the numbers that the sum of two fractions forms are within the limit
abbrev pub SumFits : Rational → Rational → Type 0
SumFits x y = PartsFit x.num x.den y.num y.den

-- the difference fits: the sum with the second number negated does
abbrev pub DifferenceFits : Rational → Rational → Type 0
DifferenceFits x y = SumFits x (minus y)
