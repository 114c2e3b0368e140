use Rattle.std.proofs.Common.{take}
use Rattle.it_elemental.specs.Generators.{generators}
use Rattle.it_check.specs.Windows.{AreSums}
use Rattle.it_check.proofs.windows.window_from.Given as goal

abbrev pub invariant-loop-weight : goal.invariant-loop-weight
invariant-loop-weight l = AreSums (generators l.problem) l.target (take l.weight-index l.weights) l.start l.sums l.next
