use Rattle.it_space.specs.Answers.{certificate_view}
use Rattle.it_space.specs.Rows.{value}
use Rattle.it_elemental.specs.Generators.{generators_of}
use Rattle.it_lift.proofs.EmptySteps.{IsEvening}
use Rattle.it_lift.proofs.excesses.empty_excess.Given as goal

abbrev pub invariant-loop-number : goal.invariant-loop-number
invariant-loop-number l = IsEvening l.dependences.space.variables l.dependences.list (value l.target) (generators_of l.problem)
    (certificate_view l.collapsed) l.number l.total
