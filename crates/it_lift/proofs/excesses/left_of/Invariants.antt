use Rattle.it_space.specs.Rows.{one_at}
use Rattle.it_elemental.specs.Generators.{generators_of}
use Rattle.it_lift.proofs.FallSteps.{IsFalling}
use Rattle.it_lift.proofs.excesses.left_of.Given as goal

abbrev pub invariant-loop-index : goal.invariant-loop-index
invariant-loop-index l = IsFalling l.weights (λ i. (generators_of l.problem).form i (one_at l.set)) l.fn.whole l.index-index l.left
