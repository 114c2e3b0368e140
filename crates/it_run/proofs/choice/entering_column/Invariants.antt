use Rattle.std.proofs.Common.{◌≡◌, ℕ, ◌<◌, true}
use Rattle.it_rational.specs.Rational.{is_at_least_zero}
use Rattle.it_tableau.specs.TableauViews.{height, table}
use Rattle.it_run.proofs.choice.entering_column.Given as goal

abbrev pub invariant-loop-j : goal.invariant-loop-j
invariant-loop-j l = (k : ℕ) → k < l.j → is_at_least_zero ((table l.tableau).entry (height l.tableau) k) ≡ true
