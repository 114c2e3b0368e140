-- Maps of different spaces that agree on common variables and rates.
use Rattle.std.specs.Prelude.{◌≡◌, ℕ, ◌+◌, ◌<◌, ◌^◌, ℤ}

-- p, of n variables, and `image`, of m, have the same entropy at each set of common variables, and the same value of each rate
pub record AgreeOnCommon (common rates n m : ℕ) (p image : ℕ → ℤ) : Type 0 where
  pub on_sets : (s : ℕ) → s < 2 ^ common → image s ≡ p s
  pub on_rates : (r : ℕ) → r < rates → image (2 ^ m + r) ≡ p (2 ^ n + r)
