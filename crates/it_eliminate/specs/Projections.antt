-- Points of a system, and its projection. A point is a map from coordinates to numbers: the values of the sets and of the rates.
use Rattle.std.specs.Prelude.{◌≡◌, ◌↔◌, ℕ, ◌+◌, ◌≤◌, ◌^◌, ℤ, pos, ◌*ℤ◌, ◌≤ℤ◌, List, map, All, Contains}
use Rattle.std.specs.Global.{Vec}
use Rattle.it_space.specs.declared.spaces.Space.{Space}
use Rattle.it_problems.specs.declared.problems.System.{System}
use Rattle.it_problems.specs.Problems.{IsSystem}
use Rattle.it_space.specs.Rows.{Terms, value, coefficient}
use Rattle.it_eliminate.specs.declared.types.Eliminated.{Eliminated}
use Rattle.it_eliminate.specs.declared.types.Eliminated.TheVariants as elimination_ends

-- the system of rows over a space
abbrev pub system_of : Space → Vec Terms → System
system_of space rows = record { space = space; rows = rows }

-- every row is at least 0 at the point
abbrev pub IsPointOf : List Terms → (ℕ → ℤ) → Type 0
IsPointOf rows p = All (λ row. pos 0 ≤ℤ value row p) rows

-- no row has the coordinate
abbrev pub LacksCoordinate : ℕ → List Terms → Type 0
LacksCoordinate at rows = All (λ row. coefficient row at ≡ pos 0) rows

-- some whole multiple of p, with other values at the eliminated coordinates, is a point at which every row is at least 0
pub record Extends (gone : List ℕ) (rows : List Terms) (p : ℕ → ℤ) : Type 0 where
  pub factor : ℕ
  pub some : 1 ≤ factor
  pub point : ℕ → ℤ
  pub kept : (c : ℕ) → ¬ (Contains gone c) → point c ≡ pos factor *ℤ p c
  pub meets : IsPointOf rows point

-- new is a system of the same space, without the rates, whose points are exactly those that extend to the rates in old
pub record IsProjection (old : System) (rates : List ℕ) (new : System) : Type 0 where
  pub space : new.space ≡ old.space
  pub system : IsSystem new
  pub free : (r : ℕ) → Contains rates r → LacksCoordinate (2 ^ old.space.variables + r) new.rows.items
  pub exact : (p : ℕ → ℤ) → IsPointOf new.rows.items p ↔ Extends (map (λ r. 2 ^ old.space.variables + r) rates) old.rows.items p

-- if elimination ends with a region, that is the projection
abbrev pub RegionIsProjection : System → List ℕ → Eliminated → Type 0
RegionIsProjection system rates (elimination_ends.Region region) = IsProjection system rates region
RegionIsProjection system rates (elimination_ends.Rows rate) = Unit {0}
RegionIsProjection system rates (elimination_ends.Wide rate) = Unit {0}
