use Rattle.it_engine.proofs.Readings.{PointSoFar}
use Rattle.it_engine.proofs.reading.point.Given as goal

abbrev pub invariant-loop-k : goal.invariant-loop-k
invariant-loop-k l = PointSoFar l.coordinates l.target l.rows l.basis l.out.items l.k
