-- The defined run about a question of a file is in reach.
use Rattle.std.proofs.Common.{◌≡◌, ◌≤◌, length, get_or, true}
use Rattle.it_syntax.specs.NamesViews.{NamesView}
use Rattle.it_question.specs.Limits.{IsQuestion, IsVerbOver}
use Rattle.it_question.specs.ProblemLines.{names_under}
use Rattle.it_question.specs.QuestionLimits.{most_names, usual}
use Rattle.it_question.specs.Questions.{BodyView, VerbView, Prove, Eliminate, Contain}
use Rattle.it_question.specs.TableSizes.{HasSmallTable}
use Rattle.it_question.proofs.FileReadings.{file_has_few_names, file_has_small_tables, file_limits}
use Rattle.it_canon.specs.QuestionDemands.{problem_of}
use Rattle.it_prove.specs.Reach.{is_in_reach}
use Rattle.it_prove.proofs.ReachLemmas.{small_is_in_reach}
use Rattle.it_answer.specs.RightAnswers.{FileIsInReach}

-- the names of a question's problem are few
few_names : (v : NamesView) (verb : VerbView) → length v.variables ≤ most_names → IsVerbOver v verb → length (names_under v verb).variables ≤ most_names
few_names v (Prove r) few over = few
few_names v (Eliminate rates) few over = few
few_names v (Contain first second tries) few over = over.0.few_variables

pub question_in_reach : (q : BodyView) → length q.names.variables ≤ most_names → IsQuestion q → HasSmallTable q → is_in_reach (problem_of q) ≡ true
question_in_reach q few k small = small_is_in_reach (problem_of q) (few_names q.names q.verb few k.verb) small

pub file_is_in_reach : FileIsInReach
file_is_in_reach bytes qs file = λ i d l. question_in_reach (get_or qs i d).body (file_has_few_names bytes qs file i d l)
    (file_limits usual bytes qs file i d l) (file_has_small_tables bytes qs file i d l)
