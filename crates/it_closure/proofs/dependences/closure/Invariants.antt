use Rattle.std.proofs.Common.{◌-◌, ◌^◌}
use Rattle.it_closure.proofs.ClosingLoop.{IsOnTheWay}
use Rattle.it_closure.proofs.dependences.closure.Given as goal

abbrev pub invariant-loop-open : goal.invariant-loop-open
invariant-loop-open l = IsOnTheWay 16 l.list l.fn.set l.all

abbrev pub decreases-loop-open : goal.decreases-loop-open
decreases-loop-open l = 2 ^ 16 - l.all
