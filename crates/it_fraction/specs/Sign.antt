-- The sign of a rational number.
use Rattle.std.specs.Prelude.{zero, suc, ℤ, pos, negsuc}
use Rattle.it_rational.specs.Rational.{Rational}

-- 1, 0 or -1, as z is above 0, 0 or below 0
abbrev pub signum : ℤ → ℤ
signum (pos zero) = pos 0
signum (pos (suc n)) = pos 1
signum (negsuc n) = negsuc 0

-- the sign of a rational number: that of its numerator
abbrev pub sign_of : Rational → ℤ
sign_of q = signum q.num
