-- Right answers: they show what they say, and they are due: runs, reduced elimination or the search end with them. And what follows.
use Rattle.std.specs.Prelude.{◌≡◌, ℕ, List, [], map, All, true}
use Rattle.it_space.specs.declared.answers.Cause.TheVariants.{Width}
use Rattle.it_space.specs.declared.answers.Answer.{Answer}
use Rattle.it_space.specs.Answers.{AnswerView, answer_view}
use Rattle.it_space.specs.Answers.AnswerView.{Yes, Undecided, Contained}
use Rattle.it_space.specs.Rows.{IsCanonical}
use Rattle.it_problems.specs.Problems.{ProblemView}
use Rattle.it_question.specs.declared.sizes.FileLimits.{FileLimits}
use Rattle.it_question.specs.Files.{IsFile, IsFileWithin}
use Rattle.it_question.specs.Questions.{BodyView, QuestionView, VerbView, Prove, Eliminate, Contain}
use Rattle.it_canon.specs.QuestionDemands.{problem_of}
use Rattle.it_prove.specs.Reach.{effort_under, is_in_reach}
use Rattle.it_prove.specs.declared.types.Runs.TheVariants.{Defined}
use Rattle.it_region.specs.declared.types.Candidate.{Candidate}
use Rattle.it_contain.specs.Proposals.{Plan, plan_after_all}
use Rattle.it_answer.specs.declared.types.Budgets.{Budgets}
use Rattle.it_answer.specs.DueContainments.{IsDueContainment}
use Rattle.it_answer.specs.DueEliminations.{IsDueElimination}
use Rattle.it_answer.specs.DueRelations.{IsDueRelation}
use Rattle.it_answer.specs.Replies.{Reply}
use Rattle.it_answer.specs.Shows.{Shows}

-- the reply is one that the runs, reduced elimination or the search end with, for a question of this verb
abbrev pub IsDueBy : Budgets → List Plan → BodyView → VerbView → Reply → Type 0
IsDueBy budgets plans q (Prove r) reply = IsDueRelation budgets.effort q r reply.answer × (reply.found ≡ [])
IsDueBy budgets plans q (Eliminate rates) reply = IsDueElimination budgets q rates reply.answer × (reply.found ≡ [])
IsDueBy budgets plans q (Contain a b tries) reply = IsDueContainment budgets plans q a b tries reply

-- an answer to a question that shows what it says, and is due with these budgets
pub record IsDueAnswer (budgets : Budgets) (plans : List Plan) (q : BodyView) (reply : Reply) : Type 0 where
  pub shows : Shows q reply.answer
  pub due : IsDueBy budgets plans q q.verb reply

-- the budgets of an answer whose targets are under this problem: quick runs alone decide these where the defined run is out of reach
abbrev pub budgets_under : ProblemView → Budgets → Budgets
budgets_under p budgets = record { effort = effort_under p budgets.effort; rows = budgets.rows; tries = budgets.tries }

-- a right answer to a question, within budgets and by boxes with these plans
abbrev pub IsRightAnswer : Budgets → List Plan → BodyView → Reply → Type 0
IsRightAnswer budgets plans q reply = IsDueAnswer (budgets_under (problem_of q) budgets) plans q reply

-- the answer is due with these budgets, and the boxes have learned of the candidate that it found
pub record IsAnswered (budgets : Budgets) (plans : List Plan) (question : QuestionView) (answer : Answer) (plans_after : List Plan) : Type 0 where
  pub found : List Candidate
  pub right : IsDueAnswer budgets plans question.body (record { answer = answer_view answer; found = found })
  pub learned : plans_after ≡ map (plan_after_all found) plans

-- ---- what follows

-- where the defined run alone is asked for and is in reach a question has one right answer, and one candidate is found, if any
abbrev pub OneRightAnswer : Type 0
OneRightAnswer = (budgets : Budgets) (plans : List Plan) (q : BodyView) (a b : Reply) → budgets.effort.runs ≡ Defined → is_in_reach (problem_of q) ≡ true
    → IsRightAnswer budgets plans q a → IsRightAnswer budgets plans q b → a ≡ b

-- the defined run about a question of a usual file is in reach
abbrev pub FileIsInReach : Type 0
FileIsInReach = (bytes : List ℕ) (qs : List QuestionView) → IsFile bytes qs → All (λ q. is_in_reach (problem_of q.body) ≡ true) qs

-- the certificates of an answer list their generators in ascending order, each once and with a weight other than 0
abbrev pub ProofsAscend : AnswerView → Type 0
ProofsAscend (Yes ws) = All (λ w. IsCanonical w.weights) ws
ProofsAscend (Contained parts ws) = All (λ w. IsCanonical w.weights) ws
ProofsAscend answer = Unit {0}

-- the certificates of a right answer list their generators in ascending order
abbrev pub AYesAscends : Type 0
AYesAscends = (budgets : Budgets) (plans : List Plan) (q : BodyView) (reply : Reply) → IsRightAnswer budgets plans q reply → ProofsAscend reply.answer

-- at a question of a file an overflow comes at step 1 or later
abbrev pub NoStepIsZero : Type 0
NoStepIsZero = (limits : FileLimits) (bytes : List ℕ) (qs : List QuestionView) → IsFileWithin limits bytes qs
    → All (λ q. (budgets : Budgets) (plans : List Plan) (found : List Candidate)
    → IsRightAnswer budgets plans q.body (record { answer = Undecided (Width 0); found = found }) → ⊥) qs
