use Rattle.it_engine.specs.Behind.{AreBaseBounds}
use Rattle.it_engine.proofs.leaving.bound_behind.Given as goal

abbrev pub invariant-loop-i : goal.invariant-loop-i
invariant-loop-i l = AreBaseBounds l.bound l.bound l.rows l.moved l.i
