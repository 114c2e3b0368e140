use Rattle.std.proofs.Common.{sym, ◌∙◌, arith}
use Rattle.it_rational.proofs.Field.{field_ℚ}
use Rattle.it_tableau.specs.TableauViews.{height, table}
use Rattle.it_run.proofs.Reading.{weight_found, weight_none}
use Rattle.it_run.proofs.readings.weight_of.Goals as goal

pub returns-then-basic-j-clause-some : goal.returns-then-basic-j-clause-some
returns-then-basic-j-clause-some c = let t = c.args.tableau.now in c.rhs.ensures
    ∙ sym (weight_found field_ℚ (height t) t.generator_columns c.requires.holds.0 (table t) c.requires.holds.1 c.loop-i.i c.args.j
    (omega (arith, c.loop-i-test.true)) (sym c.basic.ensures ∙ c.if-basic-j.true))

pub returns-clause-none : goal.returns-clause-none
returns-clause-none c = let t = c.args.tableau.now in
    weight_none field_ℚ (height t) t.generator_columns (table t) c.args.j (λ i l. c.loop-i.invariant i (omega (arith, c.loop-i-test.false)))
