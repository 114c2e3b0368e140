use Rattle.it_bounds.proofs.StepLemmas.{AreNumbered}
use Rattle.it_bounds.proofs.steps.numbered_drops.Given as goal

abbrev pub invariant-loop-i : goal.invariant-loop-i
invariant-loop-i l = AreNumbered l.rows l.dropped l.i l.drops.items
