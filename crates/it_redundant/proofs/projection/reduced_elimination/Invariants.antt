use Rattle.it_space.specs.Spaces.{size_of}
use Rattle.it_redundant.proofs.ProjectionLemmas.{Leads}
use Rattle.it_redundant.proofs.projection.reduced_elimination.Given as goal

abbrev pub invariant-loop-i : goal.invariant-loop-i
invariant-loop-i l = Leads l.givens l.effort l.rows (size_of l.givens.space) l.system.rows.items l.rates l.reduced l.i
