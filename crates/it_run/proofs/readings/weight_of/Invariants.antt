use Rattle.std.proofs.Common.{◌≢◌, ℕ, ◌<◌}
use Rattle.it_tableau.specs.TableauViews.{table}
use Rattle.it_run.proofs.readings.weight_of.Given as goal

abbrev pub invariant-loop-i : goal.invariant-loop-i
invariant-loop-i l = (k : ℕ) → k < l.i → (table l.tableau).basis k ≢ l.j
