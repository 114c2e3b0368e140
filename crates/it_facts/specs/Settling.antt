-- The values of a point that follow from facts, set by set in ascending order. No public clause cites this module.
use Rattle.std.specs.Prelude.{◌≡◌, ℕ, ◌+◌, ◌^◌, ◌<◌, ℤ, List, All}
use Rattle.it_polymatroid.specs.Polymatroid.{IsPolymatroid}
use Rattle.it_facts.specs.declared.facts.Fact.{Fact}
use Rattle.it_facts.specs.Points.{IsFactOver, IsTrueOf}

-- the fact is over n variables and `rates` rates, and true of p
pub record IsFactOf (n rates : ℕ) (p : ℕ → ℤ) (fact : Fact) : Type 0 where
  pub over : IsFactOver n rates fact
  pub true_of : IsTrueOf n p fact

-- q and p have the same value at each set before s
abbrev pub AgreeBelow : ℕ → (ℕ → ℤ) → (ℕ → ℤ) → Type 0
AgreeBelow s q p = (c : ℕ) → c < s → q c ≡ p c

-- a polymatroid of which the fact is true, and that agrees with p at the sets before s, agrees with it at s
unfoldable pub Settles : ℕ → (ℕ → ℤ) → ℕ → Fact → Type 0
Settles n p s fact = (q : ℕ → ℤ) → IsPolymatroid n q → IsTrueOf n q fact → AgreeBelow s q p → q s ≡ p s

-- a polymatroid of which all these facts are true, and that agrees with p at the sets before s, agrees with it at s
unfoldable pub Follows : ℕ → (ℕ → ℤ) → List Fact → ℕ → Type 0
Follows n p facts s = (q : ℕ → ℤ) → IsPolymatroid n q → All (IsTrueOf n q) facts → AgreeBelow s q p → q s ≡ p s

-- maps of which the fact is true have the same value at the rate
unfoldable pub TellsRate : ℕ → Fact → Type 0
TellsRate rate fact = (n : ℕ) (p q : ℕ → ℤ) → IsTrueOf n p fact → IsTrueOf n q fact → q (2 ^ n + rate) ≡ p (2 ^ n + rate)

-- maps of which all these facts are true have the same value at the rate
unfoldable pub TellRate : List Fact → ℕ → Type 0
TellRate facts rate = (n : ℕ) (p q : ℕ → ℤ) → All (IsTrueOf n p) facts → All (IsTrueOf n q) facts → q (2 ^ n + rate) ≡ p (2 ^ n + rate)
