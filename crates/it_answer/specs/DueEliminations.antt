-- The answer to `eliminate` that reduced elimination of the rows of the text ends with.
use Rattle.std.specs.Prelude.{◌≡◌, ℕ, List, [], map}
use Rattle.it_space.specs.declared.answers.Cause.TheVariants as causes
use Rattle.it_space.specs.declared.answers.Mark.{Mark}
use Rattle.it_space.specs.declared.answers.Mark.TheVariants as marks
use Rattle.it_space.specs.Answers.{AnswerView}
use Rattle.it_space.specs.Answers.AnswerView.{Undecided, Region}
use Rattle.it_space.specs.Rows.{Terms}
use Rattle.it_question.specs.Questions.{BodyView}
use Rattle.it_demand.specs.SystemForms.{system_forms}
use Rattle.it_canon.specs.TrueLines.{variable_count}
use Rattle.it_canon.specs.QuestionDemands.{problem_of, terms_in}
use Rattle.it_redundant.specs.Reduction.{NeedView, Needed, Unsettled}
use Rattle.it_redundant.specs.ReducedElimination.{ProjectedView, ReducedEnds}
use Rattle.it_redundant.specs.ReducedElimination as projections
use Rattle.it_answer.specs.declared.types.Budgets.{Budgets}

-- the mark of a row with this need
abbrev pub mark_of_need : NeedView → Mark
mark_of_need (Needed values) = marks.Needed
mark_of_need (Unsettled cause) = marks.Unsettled

-- the rows that stay, each with its mark
abbrev pub marked_rows : List (Terms × NeedView) → List (Mark × Terms)
marked_rows kept = map (λ k. (mark_of_need k.1, k.0)) kept

-- a region with its rows in order; or the cause that there is none, with its rate
abbrev pub answer_of_end : ProjectedView → AnswerView
answer_of_end (projections.Region kept dropped) = Region (marked_rows kept)
answer_of_end (projections.Rows rate) = Undecided (causes.Rows rate)
answer_of_end (projections.Wide rate) = Undecided (causes.WideRate rate)

-- The answer is that of the end of reduced elimination: of the listed rates, in their order, from the terms of the `row` lines, where an
-- equation has two rows, one the negation of the other; each reduction is under the constraints of the `given` lines, which are the
-- question's problem.
pub record IsDueElimination (budgets : Budgets) (q : BodyView) (rates : List ℕ) (answer : AnswerView) : Type 0 where
  pub end : ProjectedView
  pub ends : ReducedEnds (problem_of q) budgets.effort budgets.rows (map (terms_in q) (system_forms (variable_count q) q.lines.rows)) [] [] rates end
  pub is : answer ≡ answer_of_end end
