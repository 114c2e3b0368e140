use Rattle.it_engine.specs.Behind.{AreStillRows}
use Rattle.it_engine.proofs.leaving.still_rows.Given as goal

abbrev pub invariant-loop-i : goal.invariant-loop-i
invariant-loop-i l = AreStillRows l.rows l.height l.i l.still.items
