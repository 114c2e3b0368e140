-- The place of a term, and the coordinate of a rate that stays. No public clause cites this module.
use Rattle.std.specs.Prelude.{ℕ, ◌+◌, ◌^◌, ◌<◌, ◌≤◌, List, [], ◌∷◌, length, nat_eq, if◌then◌else◌}
use Rattle.std.specs.List.{AllWithin, list_any}
use Rattle.it_space.specs.declared.spaces.Space.{Space}
use Rattle.it_space.specs.Rows.{Terms}

-- the terms before the place are at lower coordinates, the others at higher ones
pub record IsPlaceFor (at : ℕ) (terms : Terms) (place : ℕ) : Type 0 where
  pub within : place ≤ length terms
  pub lower : AllWithin (λ t. t.0 < at) terms 0 place
  pub higher : AllWithin (λ t. at < t.0) terms place (length terms)

-- a rate's coordinate, unless the rate is in gone
abbrev pub own_coordinate : Space → List ℕ → ℕ → List ℕ
own_coordinate s gone rate = if list_any (λ r. nat_eq r rate) gone then [] else (2 ^ s.variables + rate) ∷ []
