-- No public clause cites this module: coefficients summed at their places, one after the other.
use Rattle.std.specs.Prelude.{◌≡◌, ℕ, ◌<◌, ℤ, pos, ◌+ℤ◌, List, length, cond, nat_eq, All}
use Rattle.it_number.specs.Limit.{IsWithin}
use Rattle.it_space.specs.Rows.{Terms}
use Rattle.it_space.specs.Sums.{number_at}
use Rattle.it_closure.specs.declared.dependences.Dependence.{Dependence}
use Rattle.it_closure.specs.Collapse.{AreSumsByPlace, CollapseFits}

-- amount was added at place, unless that is 0
pub record IsPutAtPlace (old new : List ℤ) (place : ℕ) (amount : ℤ) : Type 0 where
  pub fits : 0 < place → IsWithin (number_at old place +ℤ amount)
  pub same : (c : ℕ) → 0 < c → number_at new c ≡ number_at old c +ℤ cond (nat_eq place c) amount (pos 0)
  pub complete : length new ≡ length old
  pub within : All IsWithin old → All IsWithin new

-- values are the sums of a row's coefficients at their places, from place 1 on
pub record ArePlaced (n : ℕ) (ds : List Dependence) (terms : Terms) (size : ℕ) (values : List ℤ) : Type 0 where
  pub complete : length values ≡ size
  pub within : All IsWithin values
  pub sums : AreSumsByPlace n ds terms (number_at values)
  pub fits : CollapseFits n ds terms
