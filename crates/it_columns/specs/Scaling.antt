-- Rational numbers made whole by the least common multiple of their denominators (Knuth vol. 2, 4.5.1).
use Rattle.std.specs.Prelude.{ℕ, ◌/◌, ℤ, pos, ◌*ℤ◌, List, map}
use Rattle.std.specs.List.{fold, AllByRecursion as Every}
use Rattle.it_number.specs.Gcd.{lcm}
use Rattle.it_number.specs.Limit.{IsWithin}
use Rattle.it_rational.specs.Rational.{Rational}

-- the least common multiple of the denominators
unfoldable pub scale_of : List Rational → ℕ
scale_of qs = fold lcm 1 (map (λ q. q.den) qs)

-- l times q, for a multiple l of the denominator
unfoldable pub scaled_number : ℕ → Rational → ℤ
scaled_number l q = q.num *ℤ pos (l / q.den)

-- the scale and each number times it are within the limit
pub record NumbersFit (qs : List Rational) : Type 0 where
  pub scale : IsWithin (pos (scale_of qs))
  pub numbers : Every (λ q. IsWithin (scaled_number (scale_of qs) q)) qs

-- the numbers times their scale, as the values of a point
abbrev pub scaled_point : List Rational → List ℤ
scaled_point qs = map (scaled_number (scale_of qs)) qs
