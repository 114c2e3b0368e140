use Rattle.std.proofs.Common.{◌≡◌, ℕ, List, pos, sym, ap, subst, ◌∙◌}
use Rattle.it_fraction.specs.Fits.{IsNarrow}
use Rattle.it_rational.specs.Rational.{Rational, integer, times, inverse}
use Rattle.it_space.specs.declared.faults.RowFault.TheVariants.{Wide}
use Rattle.it_tableau.specs.Merging.{AreMerged, MergeFits}
use Rattle.it_tableau.specs.Entries.{entry_at}
use Rattle.it_tableau.specs.Rows.{IsReduced, RowStepFits, dense_row}
use Rattle.it_tableau.specs.SparseRows.{RowTerms, Climbs}
use Rattle.it_tableau.proofs.DenseRows.{same_width, step_fits, step_reduced, step_right, step_terms, row_without_entry_stays, row_without_entry_fits}
use Rattle.it_tableau.proofs.RowsLemmas.{fault_is_handed_on}
use Rattle.it_tableau.proofs.Zeros.{any_err}
use Rattle.it_tableau.proofs.sparse_rows.SparseRow.reduce.Goals as goal
use Rattle.it_tableau.proofs.sparse_rows.SparseRow.reduce.Goals.{After-narrow_number-right, After-reduced_entry}

-- the row's own list, in which the entry is 0
no_entry : (c : After-narrow_number-right) → entry_at (dense_row c.self.inside.width c.self.inside.terms.items c.self.inside.right)
    c.args.column ≡ integer (pos 0)
no_entry c = ap (λ (row : List Rational). entry_at row c.args.column) c.self.view_is ∙ sym c.entry-entry.ensures ∙ c.if-is_zero.ensures.yes

right_narrow : (c : After-narrow_number-right) → IsNarrow c.self.inside.right
right_narrow c = subst IsNarrow c.narrow_number-right.ensures.value c.narrow_number-right.ensures.narrow

pub returns-then-is_zero-clause-ok : goal.returns-then-is_zero-clause-ok
returns-then-is_zero-clause-ok c =
    subst (λ (row : List Rational). RowStepFits row c.args.by.now c.args.column c.args.pivot) c.self.view_is
    (row_without_entry_fits c.self.inside.width c.self.inside.terms.items c.self.inside.right c.self.invariant
    (right_narrow c) c.args.by.now c.args.column c.args.pivot (no_entry c))

pub returns-then-is_zero-clause-value : goal.returns-then-is_zero-clause-value
returns-then-is_zero-clause-value c =
    subst (λ (row : List Rational). IsReduced row c.args.by.now (times (entry_at row c.args.column) (inverse c.args.pivot)) row) c.self.view_is
    (row_without_entry_stays c.self.inside.width c.self.inside.terms.items c.self.inside.right c.self.invariant
    (right_narrow c) c.args.by.now c.args.column c.args.pivot (no_entry c))

width_is : (c : After-reduced_entry) → c.by.inside.width ≡ c.self.inside.width
width_is c = same_width c.self.inside.width c.by.inside.width c.self.inside.terms.items c.by.inside.terms.items c.self.inside.right
    c.by.inside.right c.args.self.now c.args.by.now
    c.self.view_is c.by.view_is c.requires.even

by_seen : (c : After-reduced_entry) → dense_row c.self.inside.width c.by.inside.terms.items c.by.inside.right ≡ c.args.by.now
by_seen c = ap (λ (n : ℕ). dense_row n c.by.inside.terms.items c.by.inside.right) (sym (width_is c)) ∙ c.by.view_is

by_climbs : (c : After-reduced_entry) → Climbs 0 c.self.inside.width c.by.inside.terms.items
by_climbs c = subst (λ (n : ℕ). Climbs 0 n c.by.inside.terms.items) (width_is c) c.by.invariant

factor : (c : After-reduced_entry) → c.in_ok-q.q ≡ times (entry_at c.args.self.now c.args.column) (inverse c.args.pivot)
factor c = c.in_ok-q.ensures.1 ∙ ap (λ (x : Rational). times x (inverse c.args.pivot)) c.entry-entry.ensures

pub returns-in_err-right-clause-wide : goal.returns-in_err-right-clause-wide
returns-in_err-right-clause-wide c =
    let d = (goal.at.returns-in_err-right-clause-wide c).After-reduced_entry in
    any_err c.from_residual-in_err-right.result Wide (¬ (RowStepFits c.args.self.now c.args.by.now c.args.column c.args.pivot))
    (λ fits. c.in_err-right.ensures.err (step_right c.self.inside.width c.self.inside.terms.items c.by.inside.terms.items
    c.self.inside.right c.by.inside.right c.args.self.now c.args.by.now
    c.self.view_is (by_seen d) c.args.column c.args.pivot c.in_ok-q.q (factor d) fits))

pub merge-requires-clause-by : goal.merge-requires-clause-by
merge-requires-clause-by c =
    let d = (goal.at.merge-requires-clause-by c).After-reduced_entry in
    subst (Climbs 0 c.self.inside.width) (sym c.as_slice-2.ensures.value) (by_climbs d)

pub returns-in_err-merge-clause-wide : goal.returns-in_err-merge-clause-wide
returns-in_err-merge-clause-wide c =
    let d = (goal.at.returns-in_err-merge-clause-wide c).After-reduced_entry in
    fault_is_handed_on c.from_residual-in_err-merge.result c.in_err-merge.field-0.0 Wide
    (¬ (RowStepFits c.args.self.now c.args.by.now c.args.column c.args.pivot)) c.from_residual-in_err-merge.ensures.1
    (λ e fits. c.in_err-merge.ensures.wide e
    (subst (λ (ts : RowTerms). MergeFits ts c.as_slice-2.result.now c.in_ok-q.q) (sym c.as_slice.ensures.value)
    (subst (λ (ts : RowTerms). MergeFits c.self.inside.terms.items ts c.in_ok-q.q) (sym c.as_slice-2.ensures.value)
    (step_terms c.self.inside.width c.self.inside.terms.items c.by.inside.terms.items c.self.inside.right c.by.inside.right c.args.self.now c.args.by.now
    c.self.view_is (by_seen d) c.args.column c.args.pivot c.in_ok-q.q (factor d) c.self.invariant (by_climbs d) fits))))

pub returns-clause-ok : goal.returns-clause-ok
returns-clause-ok c =
    let d = (goal.at.returns-clause-ok c).After-reduced_entry in
    step_fits c.self.inside.width c.self.inside.terms.items c.by.inside.terms.items c.self.inside.right c.by.inside.right c.args.self.now c.args.by.now
    c.self.view_is (by_seen d) c.args.column c.args.pivot c.in_ok-q.q (factor d)
    (subst (λ (x : Rational). IsNarrow (times x (inverse c.args.pivot))) c.entry-entry.ensures c.in_ok-q.ensures.0)
    (subst (λ (ts : RowTerms). MergeFits ts c.by.inside.terms.items c.in_ok-q.q) c.as_slice.ensures.value
    (subst (λ (ts : RowTerms). MergeFits c.as_slice.result.now ts c.in_ok-q.q) c.as_slice-2.ensures.value c.in_ok-merge.ensures.ok))
    c.in_ok-right.ensures.ok

pub returns-clause-value : goal.returns-clause-value
returns-clause-value c =
    let d = (goal.at.returns-clause-value c).After-reduced_entry in
    step_reduced c.self.inside.width c.self.inside.terms.items c.by.inside.terms.items c.self.inside.right c.by.inside.right c.args.self.now c.args.by.now
    c.self.view_is (by_seen d) c.args.column c.args.pivot c.in_ok-q.q (factor d) c.swap.new.x.items c.in_ok-right.right
    (subst (λ (ts : RowTerms). AreMerged ts c.by.inside.terms.items c.in_ok-q.q c.self.inside.width c.swap.new.x.items) c.as_slice.ensures.value
    (subst (λ (ts : RowTerms). AreMerged c.as_slice.result.now ts c.in_ok-q.q c.self.inside.width c.swap.new.x.items) c.as_slice-2.ensures.value
    (subst (AreMerged c.as_slice.result.now c.as_slice-2.result.now c.in_ok-q.q c.self.inside.width)
    (ap (λ v. v.items) (sym c.swap.ensures.x_after)) c.in_ok-merge.ensures.value)))
    c.in_ok-right.ensures.value
