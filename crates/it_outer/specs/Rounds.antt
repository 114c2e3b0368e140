-- The search round by round. No public clause cites this module.
use Rattle.std.specs.Prelude.{◌≡◌, ℕ, suc, ◌+◌, ◌^◌, ◌≤◌, ℤ, List, [], ◌∷◌, ◌++◌, map, length, All, Bool}
use Rattle.std.specs.Global.{Vec}
use Rattle.it_problems.specs.declared.problems.System.{System}
use Rattle.it_space.specs.Answers.{certificate_view}
use Rattle.it_problems.specs.Problems.{ProblemView, IsSystem}
use Rattle.it_space.specs.Rows.{Terms}
use Rattle.it_space.specs.Spaces.{size_of}
use Rattle.it_eliminate.specs.Projections.{LacksCoordinate}
use Rattle.it_prove.specs.ClosedProblems.{IsClosedProblem}
use Rattle.it_prove.specs.ProofViews.{Yes, EndsWith}
use Rattle.it_prove.specs.declared.types.Effort.{Effort}
use Rattle.it_outer.specs.declared.outcomes.Outcomes.{Outcomes}
use Rattle.it_outer.specs.declared.types.Frame.{Frame}
use Rattle.it_outer.specs.declared.types.Next.{Next}
use Rattle.it_outer.specs.declared.types.Next.TheVariants as nexts
use Rattle.it_outer.specs.declared.types.Round.{Round}
use Rattle.it_outer.specs.declared.types.Round.TheVariants as rounds
use Rattle.it_outer.specs.declared.types.Visit.{Visit}
use Rattle.it_outer.specs.declared.types.Visit.TheVariants as visits
use Rattle.it_hull.specs.Constants.{constants}
use Rattle.it_outer.specs.Outer.{Search, OuterView, outer_view}
use Rattle.it_outer.specs.Search.{VisitView, Proved, Refuted, Left, HullView, Hull, TooMany, TooWide, AfterHull, HullEnds, NextHull, PassEnds}
use Rattle.it_outer.specs.Theorems.{IsSearch}

-- the search of a frame
abbrev pub search_of : Frame → Search
search_of f = record { problem = f.problem.now; spare = f.spare; kept = f.kept.items; limits = f.limits }

-- the numbers ascend, from at least `from` on
abbrev pub AscendFrom : ℕ → List ℕ → Type 0
AscendFrom from [] = Unit {0}
AscendFrom from (c ∷ cs) = (from ≤ c) × AscendFrom (c + 1) cs

-- the coordinates are from 1 to size, in ascending order
pub record ArePlaces (size : ℕ) (kept : List ℕ) : Type 0 where
  pub within : All (λ c. (1 ≤ c) × (c ≤ size)) kept
  pub ascend : AscendFrom 0 kept

-- the frames that functions accept
pub record IsFrame (f : Frame) : Type 0 where
  pub constants : f.constants ≡ constants f.problem.now.space
  pub search : IsSearch (search_of f)
  pub places : ArePlaces (size_of f.problem.now.space) f.kept.items

-- each row is kept with a certificate that is an outcome about it, and the closed problem is that of q
unfoldable pub AreOutcomes : ProblemView → Effort → Outcomes → Type 0
AreOutcomes q effort o = All (λ e. EndsWith q e.0.items effort (Yes (certificate_view e.1))) o.by_row.entries × IsClosedProblem q o.closed

-- the contracts' view of a visit
abbrev pub visit_view : Visit → VisitView
visit_view (visits.Proved ws) = Proved (map certificate_view ws.items)
visit_view (visits.Refuted point) = Refuted point
visit_view (visits.Left row cause) = Left row cause

-- the contracts' view of a hull
abbrev pub next_view : Next → HullView
next_view (nexts.Hull system) = Hull system.rows.items
next_view nexts.TooMany = TooMany
next_view nexts.TooWide = TooWide

-- the systems of hulls that functions accept: of the problem's space, without the rate of the multipliers
pub record IsHullSystem (s : Search) (hull : System) : Type 0 where
  pub space : hull.space ≡ s.problem.space
  pub system : IsSystem hull
  pub free : LacksCoordinate (2 ^ s.problem.space.variables + s.spare) hull.rows.items

-- points of the problem's space
abbrev pub AreOfSpace : Search → List (List ℤ) → Type 0
AreOfSpace s points = All (λ values. length values ≡ size_of s.problem.space) points

-- if there is a hull, functions accept its system
abbrev pub IsNext : Search → Next → Type 0
IsNext s (nexts.Hull system) = IsHullSystem s system
IsNext s nexts.TooMany = Unit {0}
IsNext s nexts.TooWide = Unit {0}

-- a visit's point is of the space
abbrev pub IsVisit : Search → Visit → Type 0
IsVisit s (visits.Proved ws) = Unit {0}
IsVisit s (visits.Refuted point) = length point ≡ size_of s.problem.space
IsVisit s (visits.Left row cause) = Unit {0}

-- if a pass goes on, functions accept the hull and the rays
abbrev pub IsRound : Search → Round → Type 0
IsRound s (rounds.Goes hull rays) = IsHullSystem s hull × AreOfSpace s rays.items
IsRound s (rounds.Ends end) = Unit {0}

-- end is the result of adding a ray to an earlier result
abbrev pub IsAfterRay : Search → HullView → List ℤ → HullView → Type 0
IsAfterRay s (Hull rows) ray end = NextHull s rows ray end
IsAfterRay s TooMany ray end = end ≡ TooMany
IsAfterRay s TooWide ray end = end ≡ TooWide

-- end is the result of adding the remaining rays to an earlier result
abbrev pub Resumes : Search → HullView → List (List ℤ) → HullView → Type 0
Resumes s (Hull rows) rays end = HullEnds s rows rays end
Resumes s TooMany rays end = end ≡ TooMany
Resumes s TooWide rays end = end ≡ TooWide

-- end is the end of a pass after a round, if it may add more further rays
abbrev pub RoundEnds : Search → ℕ → Round → OuterView → Type 0
RoundEnds s more (rounds.Goes hull rays) end = PassEnds s more hull.rows.items rays.items end
RoundEnds s more (rounds.Ends other) end = end ≡ outer_view other

-- a point was added as a ray: the pass ends as it ends from there
abbrev pub IsWithPoint : Search → List Terms → List (List ℤ) → List ℤ → Round → Type 0
IsWithPoint s rows rays point round = (more : ℕ) (end : OuterView) → RoundEnds s more round end
    → (h : HullView) × NextHull s rows point h × AfterHull (λ next end. PassEnds s more next (rays ++ point ∷ []) end) h end

-- a round was made: the pass, which may add a ray more, ends as it ends from there
abbrev pub IsAfterRound : Search → List Terms → List (List ℤ) → Round → Type 0
IsAfterRound s rows rays round = (more : ℕ) (end : OuterView) → RoundEnds s more round end → PassEnds s (suc more) rows rays end

-- the lists of some vectors
abbrev pub lists_of : List (Vec Bool) → List (List Bool)
lists_of vs = map (λ v. v.items) vs
