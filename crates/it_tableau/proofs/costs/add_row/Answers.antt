use Rattle.std.proofs.Common.{◌<◌, ℕ, length, sym, subst, arith}
use Rattle.it_rational.specs.Rational.{Rational}
use Rattle.it_fraction.specs.Fits.{SumFits}
use Rattle.it_tableau.specs.Merging.{column_at, number_of_term}
use Rattle.it_tableau.specs.Entries.{entry_at}
use Rattle.it_tableau.specs.Summing.{IsNumberAdded, SumsFit}
use Rattle.it_tableau.proofs.RowsLemmas.{on_err}
use Rattle.it_tableau.proofs.SumSteps.{term_is_added, row_is_added, all_additions_fit, all_sums_are_narrow, column_in, addition_is_refused}
use Rattle.it_tableau.proofs.costs.add_row.Goals as goal

pub add_number-requires : goal.add_number-requires
add_number-requires c = subst (λ (j : ℕ). j < length c.loop-i.sums.items) (sym c.column.ensures)
    (column_in c.args.terms.now c.args.sums.now.items c.requires.narrow c.loop-i.i c.loop-i.sums.items c.loop-i.invariant c.loop-i-test.true)

pub returns-in_err-add_number-clause-err : goal.returns-in_err-add_number-clause-err
returns-in_err-add_number-clause-err c =
    on_err c.from_residual.result (¬ (SumsFit c.args.terms.now c.args.sums.now.items))
    (addition_is_refused c.args.terms.now c.args.sums.now.items c.requires.narrow c.loop-i.i c.loop-i.sums.items c.loop-i.invariant c.loop-i-test.true
    (λ fit. c.in_err-add_number.ensures.err (subst (λ (j : ℕ). SumFits c.term.result (entry_at c.loop-i.sums.items j)) (sym c.column.ensures)
    (subst (λ (x : Rational). SumFits x (entry_at c.loop-i.sums.items (column_at c.args.terms.now c.loop-i.i))) (sym c.term.ensures.value) fit))))

pub loop-i-preserved : goal.loop-i-preserved
loop-i-preserved c =
    term_is_added c.args.terms.now c.args.sums.now.items c.requires.narrow c.loop-i.i c.loop-i.sums.items c.loop-i.invariant
    c.loop-i-test.true c.add_number.new.sums.items
    (subst (λ (j : ℕ). SumFits (number_of_term c.args.terms.now c.loop-i.i) (entry_at c.loop-i.sums.items j)) c.column.ensures
    (subst (λ (x : Rational). SumFits x (entry_at c.loop-i.sums.items c.column.result)) c.term.ensures.value c.in_ok-add_number.ensures.ok))
    (subst (λ (j : ℕ). IsNumberAdded c.loop-i.sums.items j (number_of_term c.args.terms.now c.loop-i.i) c.add_number.new.sums.items) c.column.ensures
    (subst (λ (x : Rational). IsNumberAdded c.loop-i.sums.items c.column.result x c.add_number.new.sums.items) c.term.ensures.value
    c.in_ok-add_number.ensures.value))

pub returns-clause-ok : goal.returns-clause-ok
returns-clause-ok c = all_additions_fit c.args.terms.now c.args.sums.now.items c.requires.narrow c.loop-i.i c.loop-i.sums.items
    c.loop-i.invariant (omega (arith, c.loop-i-test.false))

pub returns-clause-value : goal.returns-clause-value
returns-clause-value c = row_is_added c.args.terms.now c.args.sums.now.items c.requires.narrow c.loop-i.i c.loop-i.sums.items
    c.loop-i.invariant (omega (arith, c.loop-i-test.false))

pub returns-clause-narrow : goal.returns-clause-narrow
returns-clause-narrow c = all_sums_are_narrow c.args.terms.now c.args.sums.now.items c.requires.narrow c.loop-i.i c.loop-i.sums.items
    c.loop-i.invariant (omega (arith, c.loop-i-test.false))
