use Rattle.it_engine.proofs.LoadLemmas.{AreReadUpTo}
use Rattle.it_engine.proofs.loading.columns.Given as goal

abbrev pub invariant-loop-j : goal.invariant-loop-j
invariant-loop-j l = AreReadUpTo l.coordinates l.generators l.target l.j l.columns.items
