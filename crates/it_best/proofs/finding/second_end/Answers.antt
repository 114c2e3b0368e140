use Rattle.std.proofs.Common.{ℕ, ap, subst₂, ◌∙◌}
use Rattle.std.specs.Result.{IfOk}
use Rattle.it_space.specs.Rows.{Terms, negated_terms}
use Rattle.it_run.specs.Answers.{end_of_answer}
use Rattle.it_best.specs.Ends.{PhaseEnds}
use Rattle.it_best.specs.Phases.{unknown_views}
use Rattle.it_best.proofs.finding.second_end.Goals as goal

pub returns-clause-ends : goal.returns-clause-ends
returns-clause-ends c = subst₂ (λ (m : ℕ) (target : Terms). IfOk c.phase_end.result
    (λ a. PhaseEnds m (unknown_views c.args.unknowns.now) target c.args.budget (end_of_answer a))) c.size.ensures
    (c.in_ok-target.ensures ∙ ap negated_terms c.left.ensures) c.phase_end.ensures.ends
