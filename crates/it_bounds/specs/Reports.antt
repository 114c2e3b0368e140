-- What mode `outer` tells: the right reply to a question, in lines, or as the line of a report with the steps that make the hull.
use Rattle.std.specs.Prelude.{◌≡◌, ℕ, List, ◌++◌, ◌≤◌, length, All, Bool, true, false, Option, Some, None, codes}
use Rattle.it_space.specs.Spaces.{size_of}
use Rattle.it_hull.specs.Hulls.{first_rows}
use Rattle.it_spans.specs.Spans.{StepView}
use Rattle.it_closure.specs.Sizes.{most_variables_in_reach}
use Rattle.it_prove.specs.declared.types.Runs.TheVariants.{Defined}
use Rattle.it_syntax.specs.NamesViews.{NamesView}
use Rattle.it_question.specs.Questions.{BodyView, QuestionView}
use Rattle.it_question.specs.QuestionLimits.{usual}
use Rattle.it_question.specs.declared.sizes.FileLimits.{FileLimits}
use Rattle.it_question.specs.ProblemLines.{problem_names}
use Rattle.it_demand.specs.QuestionSpaces.{space_of}
use Rattle.it_canon.specs.QuestionDemands.{question_origins}
use Rattle.it_rates.specs.Asked.{gone_rates, kept_rates, under_all_lines}
use Rattle.it_rates.specs.Frames.{hull_frame}
use Rattle.it_outer.specs.declared.types.Limits.{Limits}
use Rattle.it_certificate.specs.Values.{OfQuestion, bounds_members, misfit_members, report_text}
use Rattle.it_answer.specs.Truth.{region_rows}
use Rattle.it_bounds.specs.HullSteps.{AreMade}
use Rattle.it_bounds.specs.declared.types.Reply.{Reply}
use Rattle.it_bounds.specs.declared.types.Reply.TheVariants as replies
use Rattle.it_bounds.specs.Lines.{IsCausePrintable, bounds_cause_text, reply_lines}
use Rattle.it_bounds.specs.Replies.{ReplyView, Bounded, Undecided, Size, Other}
use Rattle.it_bounds.specs.RightReplies.{IsRightReply, limits_for}

-- a reply, and the steps that make the hull of its rays, if there are any
pub record ToldReply : Type 0 where
  pub reply : ReplyView
  pub steps : Option (List StepView)

-- the steps are those of the rays, where a report is asked for and the reply has rays
abbrev pub AreToldSteps : Bool → Limits → BodyView → ReplyView → Option (List StepView) → Type 0
AreToldSteps true limits q (Bounded rows proofs rays) steps = AreMade (hull_frame limits.rows q) (limits_for q limits).effort
    (first_rows (kept_rates q (gone_rates q.verb))) rays steps
AreToldSteps report limits q reply steps = steps ≡ None

-- the right reply to a question, with the steps that are asked for
pub record IsRightTold (report : Bool) (file : FileLimits) (limits : Limits) (q : BodyView) (told : ToldReply) : Type 0 where
  pub reply : IsRightReply file limits q told.reply
  pub steps : AreToldSteps report limits q told.reply told.steps

-- ---- as the line of a report

-- the words that say why there are no bounds to report: those of the mode's line, or that their steps aren't made
abbrev pub unreported : Limits → NamesView → ReplyView → List ℕ
unreported limits v (Bounded rows proofs rays) = codes "undecided drops"
unreported limits v (Undecided cause) = codes "undecided " ++ bounds_cause_text v limits cause
unreported limits v Size = codes "undecided size"
unreported limits v Other = codes "other"

-- the line about the question: its bounds without marks, or why there are none
abbrev pub told_report : Limits → QuestionView → ReplyView → Option (List StepView) → List ℕ
told_report limits q (Bounded rows proofs rays) (Some steps) =
    report_text (OfQuestion q.text) (bounds_members (record { rows = region_rows rows; proofs = proofs; steps = steps })) ++ codes "\n"
told_report limits q reply steps = report_text (OfQuestion q.text) (misfit_members (unreported limits (problem_names q.body) reply)) ++ codes "\n"

-- the lines of a reply to question k, or the line of a report where one is asked for
abbrev pub told_lines : Bool → Limits → ℕ → QuestionView → ToldReply → List ℕ
told_lines true limits k q told = told_report limits q told.reply told.steps
told_lines false limits k q told = reply_lines limits k q.body (question_origins (under_all_lines q.body)) told.reply

-- the line of a reply with the steps that are asked for
abbrev pub IsToldReport : Limits → QuestionView → ReplyView → List ℕ → Type 0
IsToldReport limits q reply text = (steps : Option (List StepView)) × AreToldSteps true limits q.body reply steps × (text ≡ told_report limits q reply steps)

-- ---- what can be told

-- a reply of which a report can be written: bounds are of a question that asks to eliminate rates, with rays of its space
abbrev pub IsToldReply : BodyView → Reply → Type 0
IsToldReply q (replies.Bounded rows proofs rays) = (1 ≤ length (gone_rates q.verb)) × All (λ ray. length ray ≡ size_of (space_of q.names)) rays.items
IsToldReply q (replies.Undecided cause) = IsCausePrintable (problem_names q) cause
IsToldReply q replies.Size = Unit {0}
IsToldReply q replies.Other = Unit {0}

-- ---- what follows

-- where the defined run alone is asked for, one reply with steps to a question of a file with the usual limits, of so few variables, is
-- right
abbrev pub OneRightTold : Type 0
OneRightTold = (report : Bool) (limits : Limits) (q : BodyView) (a b : ToldReply) → limits.effort.runs ≡ Defined
    → length q.names.variables ≤ most_variables_in_reach → IsRightTold report usual limits q a → IsRightTold report usual limits q b → a ≡ b
