use Rattle.std.proofs.Common.{ap, ◌∙◌}
use Rattle.it_run.specs.Answers.{end_of_answer}
use Rattle.it_elemental.specs.Generators.{generators}
use Rattle.it_best.specs.Phases.{unknown_views}
use Rattle.it_best.proofs.FindSteps.{second_passes, second_settles}
use Rattle.it_best.proofs.finding.pass_second_phase.Goals as goal

pub returns-clause-passes : goal.returns-clause-passes
returns-clause-passes c = second_passes c.args.sides.now c.args.budget (unknown_views c.as_slice.result.now) (end_of_answer c.in_ok-end.end)
    c.second_point.result (ap unknown_views c.as_slice.ensures.value ∙ c.in_ok-unknowns.ensures ∙ ap generators c.problem.ensures)
    c.in_ok-end.ensures.ends c.second_point.ensures.point

pub returns-clause-settles : goal.returns-clause-settles
returns-clause-settles c = second_settles c.args.sides.now c.args.budget (unknown_views c.as_slice.result.now) (end_of_answer c.in_ok-end.end)
    c.args.first.now.weights.now c.second_point.result
    (ap unknown_views c.as_slice.ensures.value ∙ c.in_ok-unknowns.ensures ∙ ap generators c.problem.ensures)
    c.in_ok-end.ensures.ends c.second_point.ensures.settles
