use Rattle.it_tableau.proofs.SumSteps.{IsRowAdditionUnderWay}
use Rattle.it_tableau.proofs.costs.add_row.Given as goal

abbrev pub invariant-loop-i : goal.invariant-loop-i
invariant-loop-i l = IsRowAdditionUnderWay l.terms l.fn.sums.items l.i l.sums.items
