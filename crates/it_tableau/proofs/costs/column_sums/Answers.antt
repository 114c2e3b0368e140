use Rattle.std.proofs.Common.{◌≡◌, ◌+◌, ◌-◌, ◌<◌, ℕ, List, length, subst, arith}
use Rattle.it_rational.specs.Rational.{Rational}
use Rattle.it_space.specs.declared.faults.RowFault.TheVariants.{Wide}
use Rattle.it_tableau.specs.Entries.{entry_at, row_at}
use Rattle.it_tableau.specs.Rows.{AreEven, ColumnFits}
use Rattle.it_tableau.specs.SparseRows.{RowTerms, ListsEntries}
use Rattle.it_tableau.proofs.SumSteps.{row_is_summed, row_climbs, row_is_refused}
use Rattle.it_tableau.proofs.Zeros.{any_err}
use Rattle.it_tableau.proofs.costs.column_sums.Goals as goal

-- the terms of a row of width columns
with_width : (rows : List (List Rational)) (width i : ℕ) (terms : RowTerms) → AreEven rows (width + 1) → i < length rows
    → ListsEntries (entry_at (row_at rows i)) (length (row_at rows i) - 1) terms → ListsEntries (entry_at (row_at rows i)) width terms
with_width rows width i terms even h lists =
    let l = even i h in let e : length (row_at rows i) - 1 ≡ width = omega (arith, l)
    in subst (λ (n : ℕ). ListsEntries (entry_at (row_at rows i)) n terms) e lists

pub add_row-requires-clause-terms : goal.add_row-requires-clause-terms
add_row-requires-clause-terms c =
    row_climbs c.args.rows.now c.args.width c.loop-i.i c.terms_of.result.now
    (with_width c.args.rows.now c.args.width c.loop-i.i c.terms_of.result.now c.requires c.loop-i-test.true c.terms_of.ensures)
    c.loop-i.sums.items c.loop-i.invariant

pub returns-in_err-add_row-clause-wide : goal.returns-in_err-add_row-clause-wide
returns-in_err-add_row-clause-wide c =
    any_err c.from_residual-in_err-add_row.result Wide (¬ ((j : ℕ) → j < c.args.width → ColumnFits c.args.rows.now j))
    (row_is_refused c.args.rows.now c.args.width c.loop-i.i c.terms_of.result.now
    (with_width c.args.rows.now c.args.width c.loop-i.i c.terms_of.result.now c.requires c.loop-i-test.true c.terms_of.ensures)
    c.loop-i.sums.items c.loop-i.invariant c.loop-i-test.true c.in_err-add_row.ensures.err)

pub loop-i-preserved : goal.loop-i-preserved
loop-i-preserved c =
    row_is_summed c.args.rows.now c.args.width c.loop-i.i c.terms_of.result.now
    (with_width c.args.rows.now c.args.width c.loop-i.i c.terms_of.result.now c.requires c.loop-i-test.true c.terms_of.ensures)
    c.loop-i.sums.items c.loop-i.invariant c.add_row.new.sums.items c.in_ok-add_row.ensures.ok c.in_ok-add_row.ensures.value c.in_ok-add_row.ensures.narrow
