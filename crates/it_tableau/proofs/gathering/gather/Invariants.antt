use Rattle.it_tableau.specs.Gathering.{AreGathered}
use Rattle.it_tableau.proofs.gathering.gather.Given as goal

abbrev pub invariant-loop-j : goal.invariant-loop-j
invariant-loop-j l = AreGathered l.coordinates l.columns l.target l.j l.lists.items
