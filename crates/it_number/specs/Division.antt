-- Division of a signed whole number by a natural number.
use Rattle.std.specs.Prelude.{ℕ, suc, ◌/◌, ℤ, pos, negsuc, neg_ℤ}

-- the quotient by g, rounded towards 0; 0 where g is 0
abbrev pub int_quotient : ℤ → ℕ → ℤ
int_quotient (pos n) g = pos (n / g)
int_quotient (negsuc n) g = neg_ℤ (pos (suc n / g))
