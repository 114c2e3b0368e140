use Rattle.it_demand.proofs.GeneratorLemmas.{AreStatedSoFar, givens_wanted, given_origins_wanted}
use Rattle.it_demand.proofs.lines.given_constraints.Given as goal

abbrev pub invariant-loop-i : goal.invariant-loop-i
invariant-loop-i l = AreStatedSoFar l.space (given_origins_wanted l.space.variables l.first) (givens_wanted l.space.variables) l.givens l.i l.constraints.items
