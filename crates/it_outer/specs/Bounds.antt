-- Bounds: rows, each with a certificate, that are the hull of rays, each of which meets the problem.
use Rattle.std.specs.Prelude.{◌≡◌, ℕ, ℤ, List, length, All}
use Rattle.std.specs.List.{AllZip}
use Rattle.it_space.specs.Answers.{CertificateView}
use Rattle.it_problems.specs.Problems.{ProblemView}
use Rattle.it_space.specs.Rows.{Terms, point_of}
use Rattle.it_space.specs.Spaces.{size_of}
use Rattle.it_check.specs.Meaning.{CertifiesRow}
use Rattle.it_hull.specs.Hulls.{IsHull}
use Rattle.it_hull.specs.Theorems.{MeetsProblem}
use Rattle.it_outer.specs.Outer.{OuterView, Bounds, Undecided}

-- a polymatroid and rates of the problem's space that meet it
pub record IsRay (q : ProblemView) (values : List ℤ) : Type 0 where
  pub complete : length values ≡ size_of q.space
  pub met : MeetsProblem q (point_of values)

-- rows at kept coordinates, each certified under the problem, that hold exactly at the points that rays span; each ray meets the problem
pub record AreBounds (q : ProblemView) (kept : List ℕ) (rows : List Terms) (ws : List CertificateView) (rays : List (List ℤ)) : Type 0 where
  pub certified : AllZip (CertifiesRow q) rows ws
  pub attained : All (IsRay q) rays
  pub hull : IsHull kept rows rays

-- the end of a search is right
abbrev pub IsRightOuter : ProblemView → List ℕ → OuterView → Type 0
IsRightOuter q kept (Bounds rows ws rays) = AreBounds q kept rows ws rays
IsRightOuter q kept (Undecided cause) = Unit {0}
