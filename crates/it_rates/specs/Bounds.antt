-- Exact bounds in the rates that stay, by the meaning of the question's text. Nothing here speaks of certificates or of runs.
use Rattle.std.specs.Prelude.{◌≡◌, ◌↔◌, ℕ, ℤ, List, length, All}
use Rattle.it_space.specs.Rows.{Terms, point_of}
use Rattle.it_space.specs.Spaces.{size_of}
use Rattle.it_question.specs.Questions.{BodyView}
use Rattle.it_demand.specs.QuestionSpaces.{space_of}
use Rattle.it_canon.specs.TrueLines.{AreTrueTogether}
use Rattle.it_eliminate.specs.Projections.{IsPointOf}
use Rattle.it_hull.specs.Hulls.{IsAttained, IsSpanned, UsesOnly}
use Rattle.it_rates.specs.Asked.{kept_rates, under_all_lines}

-- a polymatroid with rates, a value for each coordinate, at which all lines of the question are true
pub record IsTrueRay (q : BodyView) (values : List ℤ) : Type 0 where
  pub complete : length values ≡ size_of (space_of q.names)
  pub lines_true : AreTrueTogether (under_all_lines q) (point_of values)

-- Rows over the rates that stay hold exactly where some whole multiple of these rates is that of a polymatroid with rates at which all
-- lines of the question are true. The rays are such polymatroids with rates, and span what the rows allow.
pub record AreExactBounds (q : BodyView) (gone : List ℕ) (rows : List Terms) (rays : List (List ℤ)) : Type 0 where
  pub over : All (UsesOnly (kept_rates q gone)) rows
  pub exact : (p : ℕ → ℤ) → IsPointOf rows p ↔ IsAttained (kept_rates q gone) (AreTrueTogether (under_all_lines q)) p
  pub attained : All (IsTrueRay q) rays
  pub spanned : (p : ℕ → ℤ) → IsPointOf rows p ↔ IsSpanned (kept_rates q gone) rays p
