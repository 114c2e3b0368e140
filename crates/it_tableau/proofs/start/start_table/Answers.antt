use Rattle.std.proofs.Common.{List, length, sym, subst, ◌+◌}
use Rattle.it_space.specs.declared.faults.RowFault.TheVariants.{Wide}
use Rattle.it_rational.specs.Rational.{Rational}
use Rattle.it_tableau.specs.Fits.{StartFits}
use Rattle.it_tableau.specs.Problems.{feasibility_problem}
use Rattle.it_tableau.specs.Rows.{ColumnsFit}
use Rattle.it_tableau.proofs.RowsLemmas.{fault_is_handed_on}
use Rattle.it_tableau.proofs.StartView.{start_fits, columns_fit}
use Rattle.it_tableau.proofs.start.start_table.Goals as goal

pub returns-in_err-cost-clause-wide : goal.returns-in_err-cost-clause-wide
returns-in_err-cost-clause-wide c =
    fault_is_handed_on c.from_residual-in_err-cost.result c.in_err-cost.field-0.0 Wide
    (¬ (StartFits (length c.args.coordinates.now) (length c.args.columns.now)
    (feasibility_problem c.args.coordinates.now c.args.columns.now c.args.target.now)))
    c.from_residual-in_err-cost.ensures.1
    (λ e fits. c.in_err-cost.ensures.wide e
    (subst (λ (x : List (List Rational)). ColumnsFit x (length c.args.columns.now + length c.args.coordinates.now + 1)) (sym c.as_slice.ensures.value)
    (columns_fit c.args.coordinates.now c.args.columns.now c.args.target.now c.in_ok-rows.rows.items c.in_ok-rows.ensures fits)))

pub returns-clause-ok : goal.returns-clause-ok
returns-clause-ok c = start_fits c.args.coordinates.now c.args.columns.now c.args.target.now c.in_ok-rows.rows.items c.in_ok-rows.ensures
    (subst (λ (x : List (List Rational)). ColumnsFit x (length c.args.columns.now + length c.args.coordinates.now + 1))
    c.as_slice.ensures.value c.in_ok-cost.ensures.ok)
