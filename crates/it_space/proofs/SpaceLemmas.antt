-- How many sets and coordinates a space has, and the number of its sets as code forms it.
use Rattle.std.proofs.Common.{◌≡◌, ◌-◌, ◌*◌, ◌%◌, ◌<◌, ◌≤◌, ◌^◌, ℕ, ap, ◌∙◌, arith, lit<}
use Rattle.std.proofs.Math.Pow.{pow_mono}
use Rattle.it_space.specs.declared.spaces.Space.{Space}
use Rattle.it_space.specs.Spaces.{IsSpace, most_coordinates, most_variables, size_of}
use native.Mathlib.Nat.{mod-eq_of_lt}

pub few_sets : (n : ℕ) → n ≤ most_variables → 2 ^ n ≤ 2 ^ most_variables
few_sets n few = pow_mono {i = n} {j = most_variables} few

pub few_coordinates : (s : Space) → IsSpace s → size_of s ≤ most_coordinates
few_coordinates s k = omega (arith, few_sets s.variables k.few, k.few_rates)

-- `1 << n` in a type with more than `most_variables` bits
pub shift_is_power : (n width : ℕ) → n ≤ most_variables → 2 ^ most_variables < width → 1 * 2 ^ n % width ≡ 2 ^ n
shift_is_power n width few wide = let e : 1 * 2 ^ n ≡ 2 ^ n = omega arith in ap (λ m. m % width) e ∙ mod-eq_of_lt (omega (arith, wide, few_sets n few))

-- the number of sets as code forms it in 32 bits
pub below_shift : (m n : ℕ) → m < 1 * 2 ^ n % 4294967296 → n ≤ most_variables → m < 2 ^ n
below_shift m n h few = omega (arith, h, shift_is_power n 4294967296 few (lit< tt))

pub above_shift : (m n : ℕ) → 1 * 2 ^ n % 4294967296 ≤ m → n ≤ most_variables → 2 ^ n ≤ m
above_shift m n h few = omega (arith, h, shift_is_power n 4294967296 few (lit< tt))
