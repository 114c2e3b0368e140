-- Right answers to questions in order.
use Rattle.std.specs.Prelude.{ℕ, List, map, Option, Some, None}
use Rattle.it_settings.specs.declared.types.Run.{Run}
use Rattle.it_settings.specs.declared.types.Run.TheVariants.{Bland, Quick}
use Rattle.it_elemental.specs.Generators.{Generator}
use Rattle.it_question.specs.declared.sizes.FileLimits.{FileLimits}
use Rattle.it_question.specs.QuestionLimits.{usual, wide}
use Rattle.it_question.specs.Questions.{BodyView, QuestionView}
use Rattle.it_demand.specs.Demands.{Demand}
use Rattle.it_canon.specs.QuestionDemands.{question_demands, terms_in}
use Rattle.it_canon.specs.TrueLines.{variable_count}
use Rattle.it_region.specs.declared.types.Candidate.{Candidate}
use Rattle.it_contain.specs.Proposals.{Plan, plan_after_all}
use Rattle.it_answer.specs.declared.types.Budgets.{Budgets}
use Rattle.it_answer.specs.Forms.{all_demands, demand_at}
use Rattle.it_answer.specs.Replies.{Reply}
use Rattle.it_answer.specs.RightAnswers.{IsRightAnswer}
use Rattle.it_outer.specs.declared.types.Limits.{Limits}
use Rattle.it_prove.specs.declared.types.Effort.{Effort}
use Rattle.it_prove.specs.declared.types.Runs.TheVariants.{Defined, QuickFirst}

-- the effort to decide a target: a quick run first, or not, and the steps of the defined run, if they are bounded
abbrev pub effort_of : Run → Option ℕ → Effort
effort_of Bland pivots = record { runs = Defined; pivots = pivots }
effort_of Quick pivots = record { runs = QuickFirst; pivots = pivots }

-- the budgets of an answer: the effort for a target, the rows after a rate and the candidates that are tried
abbrev pub budgets_of : Run → Option ℕ → ℕ → ℕ → Budgets
budgets_of run pivots rows tries = record { effort = effort_of run pivots; rows = rows; tries = tries }

-- the limits of a search for outer bounds: the rows that one more ray leaves, the rays, and the effort for a row
abbrev pub limits_of : Run → Option ℕ → ℕ → ℕ → Limits
limits_of run pivots rows tries = record { rows = rows; rays = tries; effort = effort_of run pivots }

-- the limits of files whose questions may name n variables, where their number is given
abbrev pub limits_of_names : Option ℕ → FileLimits
limits_of_names None = usual
limits_of_names (Some n) = wide n

-- a right answer by boxes that had these plans before the first question, and know of the candidates `before` that were found
-- for earlier ones
abbrev pub IsRightAfter : Budgets → List Plan → List Candidate → QuestionView → Reply → Type 0
IsRightAfter budgets plans before q reply = IsRightAnswer budgets (map (plan_after_all before) plans) q.body reply

-- ---- the rows of a question's generators

-- what a demand says, as a row
abbrev pub row_of_demand : BodyView → Demand → Generator
row_of_demand q d = record { kind = d.kind; row = terms_in q d.form }

-- the rows of a question's generators, by number
abbrev pub question_generators : BodyView → ℕ → Generator
question_generators q g = row_of_demand q (demand_at (all_demands (variable_count q) (question_demands q)) g)
