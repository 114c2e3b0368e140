use Rattle.std.proofs.Common.{take, pos}
use Rattle.it_lift.specs.Sums.{for_each, AreWeightsAdded}
use Rattle.it_lift.proofs.sums.WeightSums.add_each.Given as goal

abbrev pub invariant-loop-index : goal.invariant-loop-index
invariant-loop-index l = AreWeightsAdded l.initial.self l.self (for_each (pos l.amount) (take l.index-index l.indexes))
