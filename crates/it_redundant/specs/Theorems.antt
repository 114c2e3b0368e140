-- Laws of reduction.
use Rattle.std.specs.Prelude.{◌≡◌, ◌↔◌, ℕ, ◌+◌, ◌-◌, ◌^◌, ◌≤◌, ℤ, neg_ℤ, pos, ◌≤ℤ◌, List, [], ◌++◌, ◌∷◌, length, map, All, Contains}
use Rattle.it_space.specs.Answers.{CertificateView}
use Rattle.it_problems.specs.Problems.{ProblemView, AreMet, IsProblem}
use Rattle.it_space.specs.Rows.{Terms, IsOver, point_of, value, most_system_rows}
use Rattle.it_space.specs.Spaces.{size_of}
use Rattle.it_polymatroid.specs.Polymatroid.{IsPolymatroid}
use Rattle.it_eliminate.specs.Elimination.{EliminatedView, EliminationEnds, ordered_rows}
use Rattle.it_eliminate.specs.Projections.{IsPointOf, Extends, LacksCoordinate}
use Rattle.it_prove.specs.declared.types.Effort.{Effort}
use Rattle.it_prove.specs.declared.types.Runs.TheVariants.{Defined}
use Rattle.it_redundant.specs.Reduction.{NeedView, Needed, Unsettled, Reduces, kept_rows}
use Rattle.it_redundant.specs.ReducedElimination.{ProjectedView, Region, Rows, Wide, GoesOn, ReducedEnds}

-- a polymatroid and rates that meet the givens
abbrev pub MeetsGivens : ProblemView → (ℕ → ℤ) → Type 0
MeetsGivens givens p = IsPolymatroid givens.space.variables p × AreMet p givens.constraints

-- the rows that are kept hold exactly where all do, at every polymatroid that meets the givens
abbrev pub HoldAlike : ProblemView → List Terms → List Terms → Type 0
HoldAlike givens rows kept = (p : ℕ → ℤ) → MeetsGivens givens p → IsPointOf rows p ↔ IsPointOf kept p

-- the point meets the givens and the other rows, and violates this one
pub record SeparatesRow (givens : ProblemView) (others : List Terms) (row : Terms) (values : List ℤ) : Type 0 where
  pub meets : MeetsGivens givens (point_of values)
  pub others_hold : IsPointOf others (point_of values)
  pub violated : value row (point_of values) ≤ℤ neg_ℤ (pos 1)

-- the point of a needed row separates it from the others; nothing is said of an unsettled row
abbrev pub IsNeeded : ProblemView → List Terms → Terms × NeedView → Type 0
IsNeeded givens others (row, Needed values) = SeparatesRow givens others row values
IsNeeded givens others (row, Unsettled cause) = Unit {0}

-- the point of each needed row separates it from all others that are kept
abbrev pub AreNeeded : ProblemView → List (Terms × NeedView) → Type 0
AreNeeded givens kept = (before after : List (Terms × NeedView)) (k : Terms × NeedView) → kept ≡ before ++ k ∷ after
    → IsNeeded givens (kept_rows before ++ kept_rows after) k

-- where the defined run alone is made a list has one reduction
abbrev pub OneReduction : Type 0
OneReduction = (givens : ProblemView) (effort : Effort) (before rows : List Terms) (kept other_kept : List (Terms × NeedView)) (dropped other_dropped : List (Terms × CertificateView))
    → effort.runs ≡ Defined → Reduces givens effort before rows kept dropped → Reduces givens effort before rows other_kept other_dropped
    → (kept ≡ other_kept) × (dropped ≡ other_dropped)

-- the givens are about entropies alone
abbrev pub SpeakOfSets : ProblemView → Type 0
SpeakOfSets givens = All (λ c. IsOver (2 ^ givens.space.variables - 1) c.row) givens.constraints

-- rows of the space, without the eliminated rates, that hold at a polymatroid which meets the givens, and rates, exactly where this
-- point extends to the eliminated rates; and each is needed or unsettled
pub record IsReducedRegion (givens : ProblemView) (rates : List ℕ) (rows : List Terms) (kept : List (Terms × NeedView)) : Type 0 where
  pub coordinates : All (IsOver (size_of givens.space)) (kept_rows kept)
  pub free : (r : ℕ) → Contains rates r → LacksCoordinate (2 ^ givens.space.variables + r) (kept_rows kept)
  pub exact : (p : ℕ → ℤ) → MeetsGivens givens p → IsPointOf (kept_rows kept) p ↔ Extends (map (λ r. 2 ^ givens.space.variables + r) rates) rows p
  pub needed : AreNeeded givens kept

-- if reduced elimination ends with a region, that is a reduced region
abbrev pub RegionIsReduced : ProblemView → List ℕ → List Terms → ProjectedView → Type 0
RegionIsReduced givens rates rows (Region kept dropped) = IsReducedRegion givens rates rows kept
RegionIsReduced givens rates rows (Rows rate) = Unit {0}
RegionIsReduced givens rates rows (Wide rate) = Unit {0}

-- where the defined run alone is made reduced elimination has one end
abbrev pub OneReducedEnd : Type 0
OneReducedEnd = (givens : ProblemView) (effort : Effort) (most : ℕ) (rows : List Terms) (last : List (Terms × NeedView)) (gone : List (Terms × CertificateView)) (rates : List ℕ) (end other : ProjectedView)
    → effort.runs ≡ Defined → ReducedEnds givens effort most rows last gone rates end → ReducedEnds givens effort most rows last gone rates other → end ≡ other

-- ---- for any effort

-- it is settled why a row is kept
abbrev pub IsSettledRow : Terms × NeedView → Type 0
IsSettledRow (row, Needed values) = Unit {0}
IsSettledRow (row, Unsettled cause) = ⊥

-- end is the result of reduced elimination, and none of its reductions leaves a row unsettled
abbrev pub SettledEnds : ProblemView → Effort → ℕ → List Terms → List (Terms × NeedView) → List (Terms × CertificateView) → List ℕ → ProjectedView → Type 0
SettledEnds givens effort most rows last gone [] end = end ≡ Region last gone
SettledEnds givens effort most rows last gone (r ∷ rs) end = (step : EliminatedView) × EliminationEnds (2 ^ givens.space.variables) most (ordered_rows rows) (r ∷ []) step
    × GoesOn givens effort (λ kept dropped. All IsSettledRow kept × SettledEnds givens effort most (kept_rows kept) kept dropped rs end) step end

-- the two results have the same rows, in the same order, or the same cause at the same rate
abbrev pub HaveSameRows : ProjectedView → ProjectedView → Type 0
HaveSameRows (Region kept dropped) (Region other gone) = kept_rows kept ≡ kept_rows other
HaveSameRows (Rows rate) (Rows other) = rate ≡ other
HaveSameRows (Wide rate) (Wide other) = rate ≡ other
HaveSameRows end other = ⊥

-- reduced eliminations with two efforts, in both of which all rows are settled, end with the same rows
abbrev pub SettledRegionsAgree : Type 0
SettledRegionsAgree = (givens : ProblemView) (effort other : Effort) (most : ℕ) (rows : List Terms) (rates : List ℕ) (end other_end : ProjectedView)
    → IsProblem givens → length givens.constraints ≤ most_system_rows → most ≤ most_system_rows → All (IsOver (size_of givens.space)) rows
    → SettledEnds givens effort most rows [] [] rates end → SettledEnds givens other most rows [] [] rates other_end → HaveSameRows end other_end
