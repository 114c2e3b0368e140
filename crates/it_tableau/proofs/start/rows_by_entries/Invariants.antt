use Rattle.it_tableau.specs.StartRows.{AreStartRows}
use Rattle.it_tableau.proofs.start.rows_by_entries.Given as goal

abbrev pub invariant-loop-k : goal.invariant-loop-k
invariant-loop-k l = AreStartRows l.coordinates l.columns l.target l.k l.rows.items
