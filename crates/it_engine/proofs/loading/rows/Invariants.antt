use Rattle.it_engine.specs.Loading.{AreReadRows}
use Rattle.it_engine.proofs.loading.rows.Given as goal

abbrev pub invariant-loop-k : goal.invariant-loop-k
invariant-loop-k l = AreReadRows l.coordinates l.target l.limit l.k l.rows.items
