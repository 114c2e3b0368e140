-- Greatest common divisors and least common multiples of natural numbers.
use Rattle.std.specs.Prelude.{ℕ, zero, suc, ◌*◌, ◌/◌, ◌%◌}

-- Euclid's algorithm, with as many steps as its first argument allows
unfoldable pub gcd_within : ℕ → ℕ → ℕ → ℕ
gcd_within zero a b = a
gcd_within (suc k) a zero = a
gcd_within (suc k) a (suc b) = gcd_within k (suc b) (a % suc b)

-- the greatest common divisor; 0 of 0 and 0
unfoldable pub gcd : ℕ → ℕ → ℕ
gcd a b = gcd_within (suc b) a b

-- the least common multiple; 0 where one of them is 0
unfoldable pub lcm : ℕ → ℕ → ℕ
lcm a b = a * b / gcd a b
