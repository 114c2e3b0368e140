use Rattle.it_engine.specs.Ends.{IsNextBasic}
use Rattle.it_engine.proofs.reading.next_basic.Given as goal

abbrev pub invariant-loop-i : goal.invariant-loop-i
invariant-loop-i l = IsNextBasic l.basis l.from l.to l.i l.best
