-- A hull with a further ray, and the ways in which that fails.
use Rattle.std.specs.Prelude.{◌≡◌, ◌⊎◌, ℕ, ◌+◌, ◌^◌, ℤ, List, [], ◌∷◌, ◌++◌, All, Contains}
use Rattle.it_problems.specs.declared.problems.System.{System}
use Rattle.it_problems.specs.Problems.{IsSystem}
use Rattle.it_space.specs.Rows.{Terms, ValueFits, point_of}
use Rattle.it_eliminate.specs.declared.types.Eliminated.{Eliminated}
use Rattle.it_eliminate.specs.declared.types.Eliminated.TheVariants as ends
use Rattle.it_eliminate.specs.Elimination.{EliminatedView, EliminationEnds, Wide, ordered_rows}
use Rattle.it_eliminate.specs.Projections.{LacksCoordinate}
use Rattle.it_hull.specs.Hulls.{IsHull, rows_with_multiplier}

-- the value of each row at a ray is formed within the limit
abbrev pub ValuesFit : List ℤ → List Terms → Type 0
ValuesFit ray rows = All (λ row. ValueFits row (point_of ray)) rows

-- end is the result of adding ray to a hull's rows: `Wide` if the value of a row at the ray is wide; else that of the elimination of
-- the rate at which its multiplier is, where at most `most` rows may be left; rate r is at coordinate `base` + r
abbrev pub RayEnds : ℕ → ℕ → List ℤ → ℕ → List Terms → EliminatedView → Type 0
RayEnds base most ray rate rows end = ((¬ (ValuesFit ray rows)) × (end ≡ Wide rate))
    ⊎ (ValuesFit ray rows × EliminationEnds base most (ordered_rows (rows_with_multiplier (base + rate) (point_of ray) rows)) (rate ∷ []) end)

-- next is a system of the same space without the multiplier's rate; if old is the hull of some rays, next is the hull of these and ray
pub record IsNextHull (old : System) (ray : List ℤ) (rate : ℕ) (next : System) : Type 0 where
  pub space : next.space ≡ old.space
  pub system : IsSystem next
  pub free : LacksCoordinate (2 ^ old.space.variables + rate) next.rows.items
  pub hull : (kept : List ℕ) (rays : List (List ℤ)) → ¬ (Contains kept (2 ^ old.space.variables + rate)) → IsHull kept old.rows.items rays
      → IsHull kept next.rows.items (rays ++ ray ∷ [])

-- if the result is a region, it is the hull with ray added
abbrev pub AddsRay : System → List ℤ → ℕ → Eliminated → Type 0
AddsRay hull ray rate (ends.Region next) = IsNextHull hull ray rate next
AddsRay hull ray rate (ends.Rows other) = Unit {0}
AddsRay hull ray rate (ends.Wide other) = Unit {0}
