-- No public clause cites this module: quotients that are found without a division.
use Rattle.std.specs.Prelude.{◌≡◌, ℕ, ◌*◌, ◌<◌, ◌≤◌, ◌^◌, ℤ, ◌*ℤ◌, List, unsigned_abs}
use Rattle.std.specs.Int.{int_wrapping_mul, w32}
use Rattle.std.specs.Int.Signed.{shr_z}
use Rattle.it_space.specs.Sums.{number_at}
use Rattle.it_vectors.specs.declared.narrow_numbers.ExactDivisor.{ExactDivisor}
use Prim.Native.Nat.{◌∣◌}

-- the likely quotient of z by 2 ^ shift times a number that has this inverse modulo 2 ^ 32
abbrev pub likely_quotient_of : ℕ → ℤ → ℤ → ℤ
likely_quotient_of shift inverse z = int_wrapping_mul w32 (shr_z z (2 ^ shift)) inverse

-- the divisor times a quotient of at most its bound is a number in 32 bits
pub record IsExact (by : ExactDivisor) : Type 0 where
  pub low : by.shift < 32
  pub short : by.most * unsigned_abs by.value < 2 ^ 31

-- the likely quotient of z is its quotient
abbrev pub IsTold : ExactDivisor → ℤ → Type 0
IsTold by z = likely_quotient_of by.shift by.inverse z *ℤ by.value ≡ z

-- shared divides an earlier divisor and the numbers at the places from `from` up to `to`, `to` excluded
pub record IsSharedPart (row : List ℤ) (from to earlier shared : ℕ) : Type 0 where
  pub some : 0 < shared
  pub of_earlier : shared ∣ earlier
  pub each : (j : ℕ) → from ≤ j → j < to → shared ∣ unsigned_abs (number_at row j)
