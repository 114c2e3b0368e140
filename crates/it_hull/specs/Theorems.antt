-- Laws of hulls.
use Rattle.std.specs.Prelude.{◌≡◌, ◌↔◌, ℕ, ◌+◌, ◌-◌, ◌^◌, ◌<◌, ◌≤◌, ℤ, pos, ◌+ℤ◌, ◌*ℤ◌, ◌≤ℤ◌, List, [], ◌∷◌, ◌++◌, All, Contains}
use Rattle.it_problems.specs.Problems.{ProblemView, AreMet}
use Rattle.it_space.specs.Rows.{Terms, IsOver, point_of, value}
use Rattle.it_polymatroid.specs.Polymatroid.{IsPolymatroid}
use Rattle.it_eliminate.specs.Elimination.{EliminatedView, Region}
use Rattle.it_eliminate.specs.Projections.{IsPointOf}
use Rattle.it_hull.specs.Hulls.{IsAttained, IsHull, UsesOnly, first_rows}
use Rattle.it_hull.specs.Rays.{RayEnds}

-- ---- the method

-- first_rows is the hull of no rays
abbrev pub FirstIsHull : Type 0
FirstIsHull = (kept : List ℕ) → IsHull kept (first_rows kept) []

-- a region that results from adding a ray to a hull's rows is the hull with this ray, if its multiplier's coordinate isn't kept
abbrev pub OneMoreRay : Type 0
OneMoreRay = (base most : ℕ) (ray : List ℤ) (rate : ℕ) (kept : List ℕ) (rows next : List Terms) (rays : List (List ℤ)) → ¬ (Contains kept (base + rate)) → IsHull kept rows rays
    → RayEnds base most ray rate rows (Region next) → IsHull kept next (rays ++ ray ∷ [])

-- adding a ray has one result
abbrev pub OneRayEnd : Type 0
OneRayEnd = (base most : ℕ) (ray : List ℤ) (rate : ℕ) (rows : List Terms) (end other : EliminatedView) → RayEnds base most ray rate rows end → RayEnds base most ray rate rows other → end ≡ other

-- ---- projections of cones

-- the condition holds at 0, and at sums of points where it holds with whole multiples of others
pub record IsCone (Holds : (ℕ → ℤ) → Type 0) : Type 0 where
  pub zero : Holds (λ c. pos 0)
  pub more : (k : ℕ) (p q : ℕ → ℤ) → Holds p → Holds q → Holds (λ c. pos k *ℤ p c +ℤ q c)

-- a polymatroid and rates that meet a problem
abbrev pub MeetsProblem : ProblemView → (ℕ → ℤ) → Type 0
MeetsProblem q p = IsPolymatroid q.space.variables p × AreMet p q.constraints

-- the polymatroids and rates that meet a problem are a cone
abbrev pub ProblemsAreCones : Type 0
ProblemsAreCones = (q : ProblemView) → IsCone (MeetsProblem q)

-- Rows that hold wherever a problem is met, and are the hull of rays that are attained, hold exactly at the points that are attained:
-- they are the projection onto the kept coordinates of the points that meet the problem.
abbrev pub HullIsProjection : Type 0
HullIsProjection = (q : ProblemView) (kept : List ℕ) (rows : List Terms) (rays : List (List ℤ)) → IsHull kept rows rays
    → All (λ row. (p : ℕ → ℤ) → MeetsProblem q p → pos 0 ≤ℤ value row p) rows → All (λ ray. IsAttained kept (MeetsProblem q) (point_of ray)) rays
    → (x : ℕ → ℤ) → IsPointOf rows x ↔ IsAttained kept (MeetsProblem q) x

-- ---- reduction

-- none of the kept coordinates is that of a set of n variables
abbrev pub AreNoSets : ℕ → List ℕ → Type 0
AreNoSets n kept = (c : ℕ) → Contains kept c → 2 ^ n ≤ c

-- a map that is 0 at each set
abbrev pub IsZeroAtSets : ℕ → (ℕ → ℤ) → Type 0
IsZeroAtSets n x = (c : ℕ) → c < 2 ^ n → x c ≡ pos 0

-- rows that hold at the same maps as a hull's rows, among those where sets are 0, are a hull of the same rays
abbrev pub ReducedIsHull : Type 0
ReducedIsHull = (n : ℕ) (kept : List ℕ) (rows others : List Terms) (rays : List (List ℤ)) → AreNoSets n kept → All (UsesOnly kept) others
    → ((x : ℕ → ℤ) → IsZeroAtSets n x → IsPointOf rows x ↔ IsPointOf others x) → IsHull kept rows rays → IsHull kept others rays

-- at maps where sets are 0 each problem about sets alone is met: so a reduction under such a problem makes a hull of a hull
abbrev pub RatesMeet : Type 0
RatesMeet = (q : ProblemView) (x : ℕ → ℤ) → All (λ c. IsOver (2 ^ q.space.variables - 1) c.row) q.constraints → IsZeroAtSets q.space.variables x → MeetsProblem q x
