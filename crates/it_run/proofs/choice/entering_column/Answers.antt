use Rattle.std.proofs.Common.{◌∙◌, ap, sym, arith}
use Rattle.it_rational.specs.Rational.{is_at_least_zero}
use Rattle.it_tableau.specs.TableauViews.{height, table}
use Rattle.it_run.proofs.SearchLemmas.{first_is}
use Rattle.it_run.proofs.choice.entering_column.Goals as goal

pub returns-then-is_negative-clause-some : goal.returns-then-is_negative-clause-some
returns-then-is_negative-clause-some c =
    first_is (λ j. is_at_least_zero ((table c.args.tableau.now).entry (height c.args.tableau.now) j)) c.args.tableau.now.generator_columns
    c.loop-j.j (omega arith) c.loop-j.invariant
    (ap is_at_least_zero (sym c.cost.ensures) ∙ c.if-is_negative.ensures.yes)
