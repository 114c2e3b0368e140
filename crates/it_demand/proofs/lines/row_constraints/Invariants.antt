use Rattle.it_demand.proofs.GeneratorLemmas.{AreStatedSoFar, rows_wanted, row_origins_wanted}
use Rattle.it_demand.proofs.lines.row_constraints.Given as goal

abbrev pub invariant-loop-i : goal.invariant-loop-i
invariant-loop-i l = AreStatedSoFar l.space (row_origins_wanted l.first) (rows_wanted l.space.variables) l.rows l.i l.constraints.items
