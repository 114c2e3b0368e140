use Rattle.std.proofs.Common.{length}
use Rattle.it_rational.specs.Rational.{minus}
use Rattle.it_tableau.specs.Rows.{column_sum, ColumnFits}
use Rattle.it_tableau.proofs.Building.{IsBuilt}
use Rattle.it_tableau.proofs.costs.cost_row.Given as goal

abbrev pub invariant-loop-j : goal.invariant-loop-j
invariant-loop-j l = IsBuilt (λ j. minus (column_sum l.rows j (length l.rows))) (ColumnFits l.rows) l.j l.terms.items
