-- No public clause cites this module: amounts that are added to the weights, one after the other.
use Rattle.std.specs.Prelude.{◌≡◌, ℕ, ℤ, List, [], ◌∷◌, length, map}
use Rattle.it_space.specs.declared.faults.RowFault.{RowFault}
use Rattle.it_space.specs.declared.faults.RowFault.TheVariants.{Wide as IsTooWide}
use Rattle.it_space.specs.Sums.{number_at, plus_at}
use Rattle.it_lift.specs.Fits.{WeightSumsFit}

-- the weights f after the amounts of a list are added, one after the other
abbrev pub weights_after : (ℕ → ℤ) → List (ℕ × ℤ) → ℕ → ℤ
weights_after f [] = f
weights_after f (m ∷ ms) = weights_after (plus_at f m) ms

-- the amounts ms were added to the weights old, and each sum on the way is within the limit
pub record AreWeightsAdded (old new : List ℤ) (ms : List (ℕ × ℤ)) : Type 0 where
  pub fits : WeightSumsFit (number_at old) ms
  pub same : number_at new ≡ weights_after (number_at old) ms
  pub complete : length new ≡ length old

-- if the fault is `Wide`, a sum on the way passes the limit
abbrev pub AreSumsWide : List ℤ → List (ℕ × ℤ) → RowFault → Type 0
AreSumsWide old ms fault = fault ≡ IsTooWide → ¬ WeightSumsFit (number_at old) ms

-- the amount x for the weight of each generator in a list
abbrev pub for_each : ℤ → List ℕ → List (ℕ × ℤ)
for_each x is = map (λ i. (i, x)) is
