use Rattle.std.proofs.Common.{ℕ, ap₂, subst₂, ◌∙◌, ◌++◌, ◌∷◌, [], pos}
use Rattle.std.specs.Result.{IfOk}
use Rattle.it_space.specs.Rows.{Terms}
use Rattle.it_run.specs.Answers.{end_of_answer}
use Rattle.it_best.specs.Ends.{PhaseEnds}
use Rattle.it_best.specs.PhaseSteps.{PhaseIsRight}
use Rattle.it_best.specs.Phases.{unknown_views}
use Rattle.it_best.proofs.finding.third_end.Goals as goal

pub returns-clause-ends : goal.returns-clause-ends
returns-clause-ends c = subst₂ (λ (m : ℕ) (target : Terms). IfOk c.phase_end.result
    (λ a. PhaseEnds m (unknown_views c.args.unknowns.now) target c.args.budget (end_of_answer a))) c.right_equation.ensures.value
    (c.in_ok-target.ensures ∙ ap₂ (λ (ts : Terms) (n : ℕ). ts ++ (n, pos 1) ∷ []) c.right.ensures c.left_equation.ensures.value) c.phase_end.ensures.ends

pub returns-clause-right : goal.returns-clause-right
returns-clause-right c = subst₂ (λ (m : ℕ) (target : Terms). IfOk c.phase_end.result
    (λ a. PhaseIsRight m (unknown_views c.args.unknowns.now) target a)) c.right_equation.ensures.value
    (c.in_ok-target.ensures ∙ ap₂ (λ (ts : Terms) (n : ℕ). ts ++ (n, pos 1) ∷ []) c.right.ensures c.left_equation.ensures.value) c.phase_end.ensures.right
