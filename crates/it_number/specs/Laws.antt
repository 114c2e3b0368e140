-- Laws of greatest common divisors and least common multiples.
use Rattle.std.specs.Prelude.{ℕ, ◌*◌}
use Rattle.std.specs.Int.{IsGcd}
use Prim.Native.Nat.{◌∣◌}
use Rattle.it_number.specs.Gcd.{gcd, lcm}

-- gcd a b divides both, and every number that divides both divides it
abbrev pub GcdIsGreatest : Type 0
GcdIsGreatest = (a b : ℕ) → IsGcd a b (gcd a b)

-- m is a multiple of both, and divides each multiple of both: the least common one
abbrev pub IsLcm : ℕ → ℕ → ℕ → Type 0
IsLcm a b m = (a ∣ m) × (b ∣ m) × ((n : ℕ) → a ∣ n → b ∣ n → m ∣ n)

-- lcm a b is a multiple of both, and divides every number that both divide
abbrev pub LcmIsLeast : Type 0
LcmIsLeast = (a b : ℕ) → IsLcm a b (lcm a b)

-- Euclid's lemma: a number that divides a product and is coprime to one factor divides the other
abbrev pub EuclidsLemma : Type 0
EuclidsLemma = (a b c : ℕ) → IsGcd a b 1 → a ∣ b * c → a ∣ c
