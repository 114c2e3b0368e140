use Rattle.std.proofs.Common.{subst}
use Rattle.it_elemental.specs.Generators.{generators}
use Rattle.it_best.specs.PhaseSteps.{SecondIsRight}
use Rattle.it_best.proofs.EndLemmas.{no_third_end}
use Rattle.it_best.proofs.finding.second_point.Goals as goal

pub returns-in-Point-clause-reached : goal.returns-in-Point-clause-reached
returns-in-Point-clause-reached c ps separates =
    let s = c.args.sides.now in
    no_third_end s.problem s.left s.right c.facts.ensures.problem c.facts.ensures.left c.facts.ensures.right c.args.first.now.weights.now
    c.in-Point.field-0.items ps c.requires.first.sums
    (subst (SecondIsRight s (generators s.problem)) c.in-Point.is c.requires.end) separates
