-- Without a budget no run ends because its steps are used up.
use Rattle.std.proofs.Common.{◌≡◌, inl, inr, ℕ, List, [], ◌∷◌, map}
use Rattle.it_space.specs.declared.answers.Cause.TheVariants as causes
use Rattle.it_space.specs.Answers.AnswerView.{Undecided}
use Rattle.it_problems.specs.Problems.{ProblemView}
use Rattle.it_space.specs.Rows.{Terms}
use Rattle.it_question.specs.Questions.{BodyView, VerbView, Prove, Eliminate, Contain}
use Rattle.it_demand.specs.Targets.{targets}
use Rattle.it_canon.specs.QuestionDemands.{problem_of, terms_in}
use Rattle.it_canon.specs.TrueLines.{variable_count}
use Rattle.it_redundant.specs.ReducedElimination.{ProjectedView}
use Rattle.it_redundant.specs.ReducedElimination as projections
use Rattle.it_region.specs.declared.types.Candidate.{Candidate}
use Rattle.it_prove.specs.ProofViews as proofs
use Rattle.it_prove.specs.declared.types.Effort.{Effort}
use Rattle.it_prove.proofs.ReachLemmas.{unbound_in_reach}
use Rattle.it_contain.specs.Proposals.{Plan}
use Rattle.it_answer.specs.declared.types.Budgets.{Budgets}
use Rattle.it_answer.specs.DueEliminations.{answer_of_end}
use Rattle.it_answer.specs.DueRelations.{CauseIsDue}
use Rattle.it_answer.specs.RightAnswers.{IsDueBy, budgets_under}
use Rattle.it_cli.specs.Laws.{NoLineIsOutOfSteps}

no_steps_at_region_end : (steps : ℕ) (end : ProjectedView) → Undecided (causes.Pivots steps) ≡ answer_of_end end → ⊥
no_steps_at_region_end steps (projections.Region kept dropped) e = cc
no_steps_at_region_end steps (projections.Rows rate) e = cc
no_steps_at_region_end steps (projections.Wide rate) e = cc

module _ (never : proofs.NeverOutOfSteps) where
  no_cause : (p : ProblemView) (effort : Effort) → proofs.IsUnbound effort → (steps : ℕ) (ts : List Terms) → CauseIsDue p effort ts (causes.Pivots steps) → ⊥
  no_cause p effort unbound steps [] due = absurd due
  no_cause p effort unbound steps (t ∷ ts) (inl ends) = never p t effort steps unbound ends
  no_cause p effort unbound steps (t ∷ ts) (inr (proven, rest)) = no_cause p effort unbound steps ts rest

  by_verb : (budgets : Budgets) (plans : List Plan) (q : BodyView) (verb : VerbView) (steps : ℕ) (found : List Candidate) → proofs.IsUnbound budgets.effort
      → IsDueBy budgets plans q verb (record { answer = Undecided (causes.Pivots steps); found = found }) → ⊥
  by_verb budgets plans q (Prove r) steps found unbound due =
      no_cause (problem_of q) budgets.effort unbound steps (map (terms_in q) (targets (variable_count q) r)) due.0
  by_verb budgets plans q (Eliminate rates) steps found unbound due = no_steps_at_region_end steps due.0.end due.0.is
  by_verb budgets plans q (Contain a b tries) steps found unbound due = absurd due

  pub never_out_of_steps : NoLineIsOutOfSteps
  never_out_of_steps budgets plans q steps found unbound reach right = by_verb (budgets_under (problem_of q) budgets) plans q q.verb steps found
      (unbound_in_reach (problem_of q) budgets.effort reach unbound) right.due
