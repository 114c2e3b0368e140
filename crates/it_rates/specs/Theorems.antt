-- When rows and rays are exact bounds.
use Rattle.std.specs.Prelude.{ℕ, ℤ, pos, ◌≤ℤ◌, List, All}
use Rattle.it_problems.specs.Problems.{ProblemView}
use Rattle.it_space.specs.Rows.{Terms, value}
use Rattle.it_question.specs.Questions.{BodyView}
use Rattle.it_canon.specs.QuestionDemands.{IsProblemOf}
use Rattle.it_hull.specs.Hulls.{IsHull}
use Rattle.it_hull.specs.Theorems.{MeetsProblem}
use Rattle.it_rates.specs.Asked.{kept_rates, under_all_lines}
use Rattle.it_rates.specs.Bounds.{AreExactBounds, IsTrueRay}

-- Rows that hold wherever the problem that all lines pose is met, and are the hull of rays at which all lines are true, are exact bounds.
abbrev pub HullIsExact : Type 0
HullIsExact = (q : BodyView) (p : ProblemView) (gone : List ℕ) (rows : List Terms) (rays : List (List ℤ)) → IsProblemOf (under_all_lines q) p
    → IsHull (kept_rates q gone) rows rays → All (λ row. (x : ℕ → ℤ) → MeetsProblem p x → pos 0 ≤ℤ value row x) rows → All (IsTrueRay q) rays
    → AreExactBounds q gone rows rays
