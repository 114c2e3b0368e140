use Rattle.std.proofs.Common.{◌≡◌, ℕ, ◌<◌, true}
use Rattle.it_fraction.specs.Fits.{IsNarrow}
use Rattle.it_tableau.specs.Operations.{rationals}
use Rattle.it_tableau.specs.TableauViews.{height, table}
use Rattle.it_tableau.specs.SimplexTables.{ratio}
use Rattle.it_run.specs.Choice.{is_candidate}
use Rattle.it_run.specs.Steps.{IsBestOf}
use Rattle.it_run.proofs.choice.leaving_row.Given as goal

abbrev pub invariant-loop-i : goal.invariant-loop-i
invariant-loop-i l = record {
  best : IsBestOf (height l.tableau) l.tableau.generator_columns (table l.tableau) l.column l.i l.best;
  fits : (i : ℕ) → i < l.i → is_candidate rationals (table l.tableau) l.column i ≡ true
      → IsNarrow (ratio rationals (height l.tableau) l.tableau.generator_columns (table l.tableau) l.column i);
}
