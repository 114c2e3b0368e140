-- Cones of rays, and the rows that hold exactly there. A ray is a point of which only the kept coordinates count. (The convex hull
-- method: J.-L. Lassez, "Querying Constraints", 1990. In information theory: W. Xu, J. Wang and J. Sun, "A projection method for
-- derivation of non-Shannon-type information inequalities", 2008.)
use Rattle.std.specs.Prelude.{◌≡◌, ◌↔◌, ℕ, ◌≤◌, ℤ, pos, neg_ℤ, ◌+ℤ◌, ◌*ℤ◌, List, [], ◌∷◌, ◌++◌, map, All, Contains}
use Rattle.it_space.specs.Cancelling.{with_term}
use Rattle.it_space.specs.Rows.{Terms, coefficient, value, point_of}
use Rattle.it_eliminate.specs.Projections.{IsPointOf}

-- Rays span a point where some whole multiple of it is, at each kept coordinate, a whole multiple of the first ray and a point that the
-- others span; where there is no ray, the point is 0.
abbrev pub IsSpanned : List ℕ → List (List ℤ) → (ℕ → ℤ) → Type 0
IsSpanned kept [] x = (c : ℕ) → Contains kept c → x c ≡ pos 0
IsSpanned kept (ray ∷ rays) x = (factor weight : ℕ) × (rest : ℕ → ℤ) × (1 ≤ factor)
    × ((c : ℕ) → Contains kept c → pos factor *ℤ x c ≡ pos weight *ℤ point_of ray c +ℤ rest c) × IsSpanned kept rays rest

-- a row has no coordinate that isn't kept
abbrev pub UsesOnly : List ℕ → Terms → Type 0
UsesOnly kept row = (c : ℕ) → ¬ (Contains kept c) → coefficient row c ≡ pos 0

-- rows at kept coordinates that hold exactly at the points that rays span
pub record IsHull (kept : List ℕ) (rows : List Terms) (rays : List (List ℤ)) : Type 0 where
  pub over : All (UsesOnly kept) rows
  pub exact : (x : ℕ → ℤ) → IsPointOf rows x ↔ IsSpanned kept rays x

-- some whole multiple of x, with other values at coordinates that aren't kept, is a point at which the condition holds
pub record IsAttained (kept : List ℕ) (Holds : (ℕ → ℤ) → Type 0) (x : ℕ → ℤ) : Type 0 where
  pub factor : ℕ
  pub some : 1 ≤ factor
  pub point : ℕ → ℤ
  pub same : (c : ℕ) → Contains kept c → point c ≡ pos factor *ℤ x c
  pub holds : Holds point

-- a kept coordinate is 0: two rows
abbrev pub zero_rows : ℕ → List Terms
zero_rows c = ((c, pos 1) ∷ []) ∷ ((c, neg_ℤ (pos 1)) ∷ []) ∷ []

-- the rows of the hull of no rays: each kept coordinate is 0
abbrev pub first_rows : List ℕ → List Terms
first_rows [] = []
first_rows (c ∷ cs) = zero_rows c ++ first_rows cs

-- the row with a multiplier at coordinate at: its value at a point is the old row's value at the point less the multiplier times the ray
abbrev pub with_multiplier : ℕ → (ℕ → ℤ) → Terms → Terms
with_multiplier at ray row = with_term at (neg_ℤ (value row ray)) row

-- rows with the multiplier, and the row that says that it is at least 0
abbrev pub rows_with_multiplier : ℕ → (ℕ → ℤ) → List Terms → List Terms
rows_with_multiplier at ray rows = map (with_multiplier at ray) rows ++ ((at, pos 1) ∷ []) ∷ []
