-- No public clause cites this module: the axioms of polymatroids at two sets, as the test of a table goes through them.
use Rattle.std.specs.Prelude.{ℕ, ◌^◌, ◌<◌, ℤ, ◌+ℤ◌, ◌≤ℤ◌, bit_and, bit_or}
use Rattle.it_space.specs.Sets.{IsInside}

-- the axioms of polymatroids at two sets
pub record PairHolds (h : ℕ → ℤ) (s t : ℕ) : Type 0 where
  pub rises : IsInside s t → h s ≤ℤ h t
  pub submodular : (h (bit_or s t) +ℤ h (bit_and s t)) ≤ℤ (h s +ℤ h t)

-- the axioms of polymatroids at s and each other set
abbrev pub PairsHoldAt : ℕ → (ℕ → ℤ) → ℕ → Type 0
PairsHoldAt n h s = (t : ℕ) → t < 2 ^ n → PairHolds h s t
