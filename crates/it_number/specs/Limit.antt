-- The limits of numbers: each number of the product is at most 2 ^ 127 - 1 in absolute value, and the numbers of runs in 64 bits at
-- most 2 ^ 63 - 1. The bounds are defined here alone.
use Rattle.std.specs.Prelude.{ℕ, ◌<◌, ◌^◌, ℤ, unsigned_abs}

-- z is at most 2 ^ 127 - 1 in absolute value
abbrev pub IsWithin : ℤ → Type 0
IsWithin z = unsigned_abs z < 2 ^ 127

-- whole numbers below this in absolute value fit a signed number of 64 bits
abbrev pub signed_limit : ℕ
signed_limit = 2 ^ 63
