-- The claims of the answer of a run from a start.
use Rattle.std.specs.Prelude.{◌≡◌, ℕ, ◌<◌, List, Option}
use Rattle.it_rational.specs.Rational.{Rational, integer}
use Rattle.it_tableau.specs.Operations.{rationals}
use Rattle.it_tableau.specs.TableauViews.{TableauView, height, row_sign, table}
use Rattle.it_tableau.specs.SimplexTables.{FeasibilityProblem, sign, start}
use Rattle.it_run.specs.Runs.{RunEndView}
use Rattle.it_run.specs.Runs.RunEndView.{Weights, Point, Pivots, Width}
use Rattle.it_run.specs.Solving.{RunsTo}
use Rattle.it_run.specs.declared.answering.Solved.{Solved}
use Rattle.it_run.specs.declared.answering.Solved.TheVariants as answers

-- the end of a run that an answer represents
abbrev pub end_of_answer : Solved → RunEndView (List (ℕ × Rational)) (List Rational)
end_of_answer (answers.Weights ws) = Weights ws.items
end_of_answer (answers.Point q) = Point q.items
end_of_answer (answers.Pivots k) = Pivots k
end_of_answer (answers.Width k) = Width k

-- the sign of a row as a number
abbrev pub sign_number : TableauView → ℕ → Rational
sign_number t k = integer (row_sign t k)

-- the tableau's rows were negated as those of the start of p
abbrev pub HasSigns : TableauView → FeasibilityProblem Rational → Type 0
HasSigns t p = (k : ℕ) → k < height t → sign_number t k ≡ sign rationals p k

-- the tableau is the start of the problem
pub record IsStartOf (p : FeasibilityProblem Rational) (t : TableauView) : Type 0 where
  pub table_is : table t ≡ start rationals (height t) t.generator_columns p
  pub signs : HasSigns t p

-- the tableau is the start of some problem
abbrev pub HasProblem : TableauView → Type 0
HasProblem t = (p : FeasibilityProblem Rational) × IsStartOf p t

-- answer is the end of the run from the tableau, with a budget or without one, for any problem that it is the start of
abbrev pub RunsFrom : TableauView → Option ℕ → Solved → Type 0
RunsFrom t budget answer = (p : FeasibilityProblem Rational) → IsStartOf p t → RunsTo (height t) t.generator_columns p budget (table t) (end_of_answer answer)
