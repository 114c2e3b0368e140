use Rattle.it_run.proofs.FillingLemmas.{ValuesSoFar}
use Rattle.it_run.proofs.readings.point.Given as goal

abbrev pub invariant-loop-k : goal.invariant-loop-k
invariant-loop-k l = ValuesSoFar l.tableau l.out.items l.k
