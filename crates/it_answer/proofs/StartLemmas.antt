-- No run about a question ends before its first step.
use Rattle.std.proofs.Common.{◌≡◌, inl, inr, List, [], ◌∷◌, map, All, refl}
use Rattle.it_space.specs.declared.answers.Cause.TheVariants.{Width}
use Rattle.it_problems.specs.declared.problems.Constraint.{Constraint}
use Rattle.it_space.specs.Answers as answer_views
use Rattle.it_space.specs.Bounds.{IsSmall}
use Rattle.it_problems.specs.Problems.{ProblemView, IsProblem}
use Rattle.it_space.specs.Rows.{Terms}
use Rattle.it_polymatroid.specs.Certificates.{Form}
use Rattle.it_question.specs.Limits.{IsQuestion}
use Rattle.it_question.proofs.NumberLemmas.{QuestionHasSmallNumbers}
use Rattle.it_question.specs.Questions.{BodyView, VerbView, Prove, Eliminate, Contain}
use Rattle.it_demand.specs.Origins.{States}
use Rattle.it_demand.specs.Targets.{targets}
use Rattle.it_demand.specs.SystemForms.{AreRowsOf}
use Rattle.it_canon.specs.QuestionDemands.{question_demands, problem_of, terms_in, IsProblemOf}
use Rattle.it_canon.specs.TrueLines.{variable_count}
use Rattle.it_canon.proofs.ExistenceLemmas.{each_question, question_poses, relation_rows}
use Rattle.it_demand.proofs.ZipLemmas.{zip-right}
use Rattle.it_prove.proofs.SmallLemmas.{never_at_start}
use Rattle.it_prove.specs.declared.types.Effort.{Effort}
use Rattle.it_region.specs.declared.types.Candidate.{Candidate}
use Rattle.it_contain.specs.Proposals.{Plan}
use Rattle.it_answer.specs.declared.types.Budgets.{Budgets}
use Rattle.it_answer.proofs.RegionLemmas.{not_width}
use Rattle.it_answer.specs.DueRelations.{CauseIsDue}
use Rattle.it_answer.specs.RightAnswers.{IsDueBy, IsRightAnswer, NoStepIsZero, budgets_under}

small_constraints : (q : BodyView) (p : ProblemView) → IsProblemOf q p → All (λ (c : Constraint). IsSmall c.row) p.constraints
small_constraints q p is = zip-right (States p.space) (λ (c : Constraint). IsSmall c.row) (λ d c s. s.row.small)
    (question_demands q) p.constraints is.constraints.stated

not_before_start : (p : ProblemView) (effort : Effort) (fs : List Form) (ts : List Terms) → IsProblem p
    → All (λ (c : Constraint). IsSmall c.row) p.constraints → AreRowsOf p.space fs ts → CauseIsDue p effort ts (Width 0) → ⊥
not_before_start p effort [] [] k small a c = absurd c
not_before_start p effort [] (t ∷ ts) k small a c = absurd a
not_before_start p effort (f ∷ fs) [] k small a c = absurd a
not_before_start p effort (f ∷ fs) (t ∷ ts) k small a (inl e) = never_at_start p t effort k (record { constraints = small; own = a.0.small }) e
not_before_start p effort (f ∷ fs) (t ∷ ts) k small a (inr c) = not_before_start p effort fs ts k small a.1 c.1

module _ (q : BodyView) (k : IsQuestion q) (small : QuestionHasSmallNumbers q) (budgets : Budgets) (plans : List Plan) (found : List Candidate) where
  by_verb : (verb : VerbView) → q.verb ≡ verb → IsDueBy budgets plans q verb (record { answer = answer_views.Undecided (Width 0); found = found }) → ⊥
  by_verb (Prove r) about d =
      let is = question_poses q k small in
      not_before_start (problem_of q) budgets.effort (targets (variable_count q) r)
      (map (terms_in q) (targets (variable_count q) r)) is.limits (small_constraints q (problem_of q) is)
      (relation_rows q k small r about) d.0
  by_verb (Eliminate rates) about d = not_width 0 d.0.end d.0.is
  by_verb (Contain first second tries) about d = d

pub no_step_is_zero : NoStepIsZero
no_step_is_zero = each_question (λ q. (budgets : Budgets) (plans : List Plan) (found : List Candidate)
    → IsRightAnswer budgets plans q.body (record { answer = answer_views.Undecided (Width 0); found = found }) → ⊥)
    (λ q k small budgets plans found a. by_verb q.body k small (budgets_under (problem_of q.body) budgets) plans found q.body.verb refl a.due)
