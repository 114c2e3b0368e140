use Rattle.it_engine.proofs.LoadLemmas.{IsNormUpTo}
use Rattle.it_engine.proofs.loading.norm.Given as goal

abbrev pub invariant-loop-j : goal.invariant-loop-j
invariant-loop-j l = IsNormUpTo l.columns l.norm l.j
