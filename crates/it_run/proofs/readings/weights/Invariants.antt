use Rattle.it_tableau.specs.TableauViews.{height, table}
use Rattle.it_run.proofs.FillingLemmas.{AreWeightsSoFar}
use Rattle.it_run.proofs.readings.weights.Given as goal

abbrev pub invariant-loop-j : goal.invariant-loop-j
invariant-loop-j l = AreWeightsSoFar (height l.tableau) l.tableau.generator_columns (table l.tableau) l.out.items l.j
