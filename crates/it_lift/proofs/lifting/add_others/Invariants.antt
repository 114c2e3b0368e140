use Rattle.std.proofs.Common.{◌-◌}
use Rattle.std.specs.List.{flat_map}
use Rattle.it_space.specs.Answers.{certificate_view}
use Rattle.it_space.specs.Rows.{value}
use Rattle.it_polymatroid.specs.Elementals.{span}
use Rattle.it_elemental.specs.Generators.{generators_of}
use Rattle.it_lift.specs.Lifts.{excess, moves_of}
use Rattle.it_lift.specs.Sums.{AreWeightsAdded}
use Rattle.it_lift.proofs.lifting.add_others.Given as goal

abbrev pub invariant-loop-number : goal.invariant-loop-number
invariant-loop-number l = AreWeightsAdded l.initial.sums l.sums (flat_map
    (moves_of l.dependences.space.variables l.dependences.list (excess (certificate_view l.collapsed) (value l.target)
    (generators_of l.problem))) (span 1 (l.number - 1)))
