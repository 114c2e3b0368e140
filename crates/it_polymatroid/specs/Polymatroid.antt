-- Polymatroids: the functions on the sets of n variables for which Shannon's inequalities hold (Fujishige 1978; R. W. Yeung, "A Framework for Linear Information Inequalities", 1997).
-- A set is a number below 2 ^ n, read by its binary digits.
use Rattle.std.specs.Prelude.{◌≡◌, ℕ, ◌^◌, ◌<◌, bit_and, bit_or, ℤ, pos, ◌+ℤ◌, ◌≤ℤ◌}
use Rattle.it_space.specs.Sets.{IsInside}

-- h is 0 at the empty set, monotone and submodular, over all pairs of sets
pub record IsPolymatroid (n : ℕ) (h : ℕ → ℤ) : Type 0 where
  pub empty : h 0 ≡ pos 0
  pub rises : (s t : ℕ) → t < 2 ^ n → IsInside s t → h s ≤ℤ h t
  pub submodular : (s t : ℕ) → s < 2 ^ n → t < 2 ^ n → (h (bit_or s t) +ℤ h (bit_and s t)) ≤ℤ (h s +ℤ h t)
