-- Where the lines of the problem that a question poses are true.
use Rattle.std.specs.Prelude.{ℕ, ℤ, length, All}
use Rattle.it_polymatroid.specs.Polymatroid.{IsPolymatroid}
use Rattle.it_syntax.specs.Meaning.{Holds}
use Rattle.it_syntax.specs.Givens.{IsTrueAt}
use Rattle.it_question.specs.OwnLines.{OwnLinesView}
use Rattle.it_question.specs.Questions.{BodyView}
use Rattle.it_question.specs.ProblemLines.{problem_names, problem_lines}

-- the number of variables of the problem
abbrev pub variable_count : BodyView → ℕ
variable_count q = length (problem_names q).variables

-- each given is true at p, and each row holds at p
pub record AreTrueAt (n : ℕ) (p : ℕ → ℤ) (own : OwnLinesView) : Type 0 where
  pub givens : All (IsTrueAt n p) own.givens
  pub rows : All (Holds n p) own.rows

-- a polymatroid and rates that make the lines of a question's problem true
abbrev pub AreTrueTogether : BodyView → (ℕ → ℤ) → Type 0
AreTrueTogether q p = IsPolymatroid (variable_count q) p × AreTrueAt (variable_count q) p (problem_lines q)
