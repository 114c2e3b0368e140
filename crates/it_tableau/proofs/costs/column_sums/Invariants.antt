use Rattle.it_tableau.proofs.SumSteps.{AreSummed}
use Rattle.it_tableau.proofs.costs.column_sums.Given as goal

abbrev pub invariant-loop-i : goal.invariant-loop-i
invariant-loop-i l = AreSummed l.rows l.width l.i l.sums.items
