use Rattle.std.proofs.Common.{◌≡◌, ◌<◌, ℕ}
use Rattle.it_fraction.specs.Fits.{SumFits}
use Rattle.it_tableau.specs.Entries.{entry_at, row_at}
use Rattle.it_tableau.specs.Rows.{column_sum}
use Rattle.it_tableau.proofs.costs.negated_sum.Given as goal

abbrev pub invariant-loop-i : goal.invariant-loop-i
invariant-loop-i l = record {
  sum_is : l.sum ≡ column_sum l.rows l.j l.i;
  fits : (k : ℕ) → k < l.i → SumFits (entry_at (row_at l.rows k) l.j) (column_sum l.rows l.j k);
}
