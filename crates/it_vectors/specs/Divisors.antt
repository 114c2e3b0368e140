-- Common divisors of the numbers of a list.
use Rattle.std.specs.Prelude.{ℕ, ◌<◌, ℤ, unsigned_abs, List, length}
use Prim.Native.Nat.{◌∣◌}
use Rattle.it_space.specs.Sums.{number_at}

-- shared divides all numbers, and isn't 0
pub record DividesAll (shared : ℕ) (numbers : List ℤ) : Type 0 where
  pub some : 0 < shared
  pub each : (k : ℕ) → k < length numbers → shared ∣ unsigned_abs (number_at numbers k)
