-- Laws of bounds and of searches.
use Rattle.std.specs.Prelude.{◌≡◌, ◌↔◌, ℕ, ◌+◌, ◌^◌, ◌≤◌, ◌<◌, ℤ, List, All, Contains}
use Rattle.it_space.specs.Answers.{CertificateView}
use Rattle.it_problems.specs.Problems.{ProblemView, IsProblem}
use Rattle.it_space.specs.Rows.{Terms, IsOver, most_system_rows}
use Rattle.it_space.specs.Spaces.{size_of}
use Rattle.it_eliminate.specs.Projections.{IsPointOf}
use Rattle.it_hull.specs.Hulls.{IsAttained}
use Rattle.it_hull.specs.Theorems.{MeetsProblem}
use Rattle.it_prove.specs.declared.types.Runs.TheVariants.{Defined}
use Rattle.it_outer.specs.Bounds.{AreBounds, IsRightOuter}
use Rattle.it_outer.specs.Outer.{Search, OuterView}
use Rattle.it_outer.specs.Search.{SearchEnds}

-- Bounds are the projection onto the kept coordinates of all polymatroids and rates that meet the problem: the rows hold exactly where
-- some whole multiple of a point extends to one of these.
abbrev pub BoundsAreProjection : Type 0
BoundsAreProjection = (q : ProblemView) (kept : List ℕ) (rows : List Terms) (ws : List CertificateView) (rays : List (List ℤ)) → IsProblem q → All (IsOver (size_of q.space)) rows
    → AreBounds q kept rows ws rays → (x : ℕ → ℤ) → IsPointOf rows x ↔ IsAttained kept (MeetsProblem q) x

-- the searches that functions accept: kept coordinates are those of rates, and the rate of the multipliers isn't kept
pub record IsSearch (s : Search) : Type 0 where
  pub problem : IsProblem s.problem
  pub spare : s.spare < s.problem.space.rates
  pub away : ¬ (Contains s.kept (2 ^ s.problem.space.variables + s.spare))
  pub rates : All (λ c. (2 ^ s.problem.space.variables ≤ c) × (c ≤ size_of s.problem.space)) s.kept
  pub few_rows : s.limits.rows ≤ most_system_rows

-- the end of a search is right
abbrev pub EndsAreRight : Type 0
EndsAreRight = (s : Search) (end : OuterView) → IsSearch s → SearchEnds s end → IsRightOuter s.problem s.kept end

-- where the defined run alone is made a search has one end
abbrev pub OneSearchEnd : Type 0
OneSearchEnd = (s : Search) (end other : OuterView) → s.limits.effort.runs ≡ Defined → SearchEnds s end → SearchEnds s other → end ≡ other
