use Rattle.std.proofs.Common.{◌+◌, length}
use Rattle.it_space.proofs.MixLemmas.{UnderWay}
use Rattle.it_space.proofs.cancelling.mix.Given as goal

abbrev pub invariant-loop-coordinate : goal.invariant-loop-coordinate
invariant-loop-coordinate l = UnderWay l.at l.a l.up l.b l.down l.left l.right l.terms.items

abbrev pub decreases-loop-coordinate : goal.decreases-loop-coordinate
decreases-loop-coordinate l = length l.left + length l.right
