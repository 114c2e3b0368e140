use Rattle.std.proofs.Common.{ap, refl, ◌∙◌}
use Rattle.it_best.specs.Ends.{ThirdFollows}
use Rattle.it_best.specs.PhaseSteps.{last_equation, last_target, third_unknowns}
use Rattle.it_best.specs.Phases.{unknown_views}
use Rattle.it_best.proofs.FindSteps.{by_end}
use Rattle.it_best.proofs.finding.by_third_phase.Goals as goal

pub returns : goal.returns
returns c =
    let s = c.args.sides.now in
    by_end (last_equation s.problem) (last_equation s.problem) (unknown_views c.as_slice.result.now) (third_unknowns s) (last_target s)
    c.args.budget c.in_ok-end.end c.third_answer.result (ThirdFollows s.problem s.left s.right) refl
    (ap unknown_views c.as_slice.ensures.value ∙ c.in_ok-unknowns.ensures) c.in_ok-end.ensures.ends c.third_answer.ensures
