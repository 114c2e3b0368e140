use Rattle.std.proofs.Common.{ap, ◌∙◌}
use Rattle.it_ratio.specs.BestViews.{best_view}
use Rattle.it_run.specs.Answers.{end_of_answer}
use Rattle.it_best.specs.Phases.{unknown_views}
use Rattle.it_best.proofs.FindSteps.{first_settles, third_settles}
use Rattle.it_best.proofs.finding.by_phases.Goals as goal

pub returns-in_err-first_weights-clause-settles : goal.returns-in_err-first_weights-clause-settles
returns-in_err-first_weights-clause-settles c =
    first_settles c.args.sides.now c.args.budget (unknown_views c.as_slice.result.now) (end_of_answer c.in_ok-end.end)
    c.from_residual-in_err-first_weights.result c.in_err-first_weights.field-0.0
    (ap unknown_views c.as_slice.ensures.value ∙ c.in_ok-unknowns.ensures) c.in_ok-end.ensures.ends
    c.from_residual-in_err-first_weights.ensures.1 c.in_err-first_weights.ensures.settles

pub returns-clause-value : goal.returns-clause-value
returns-clause-value c = third_settles c.args.sides.now c.args.budget (unknown_views c.as_slice.result.now) (end_of_answer c.in_ok-end.end)
    c.in_ok-first_weights.field-0.now (best_view c.in_ok-best.best) (ap unknown_views c.as_slice.ensures.value ∙ c.in_ok-unknowns.ensures)
    c.in_ok-end.ensures.ends c.in_ok-first_weights.ensures.weights c.in_ok-pass_second_phase.ensures.passes c.in_ok-best.ensures
