use Rattle.it_tableau.proofs.GatherSteps.{AreRowsUnderWay}
use Rattle.it_tableau.proofs.gathering.gathered_rows.Given as goal

abbrev pub invariant-loop-k : goal.invariant-loop-k
invariant-loop-k l = AreRowsUnderWay l.coordinates l.columns l.target l.k l.lists.items l.rows.items
