use Rattle.it_demand.proofs.ChainLemmas.{IsChained}
use Rattle.it_demand.proofs.givens.chain.Given as goal

abbrev pub invariant-loop-i : goal.invariant-loop-i
invariant-loop-i l = IsChained l.space l.line l.parts l.sets l.past l.i l.equations.items
