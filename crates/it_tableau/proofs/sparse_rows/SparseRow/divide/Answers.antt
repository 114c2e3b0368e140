use Rattle.std.proofs.Common.{List, sym, ap, subst}
use Rattle.it_rational.specs.Rational.{Rational}
use Rattle.it_space.specs.declared.faults.RowFault.TheVariants.{Wide}
use Rattle.it_tableau.specs.Merging.{AreDivided, TermQuotientsFit}
use Rattle.it_tableau.specs.Rows.{RowQuotientsFit, IsDivided, dense_row}
use Rattle.it_tableau.specs.SparseRows.{RowTerms}
use Rattle.it_tableau.proofs.DenseRows.{right_quotient_fits, row_divided, row_quotients_fit, term_quotients_fit}
use Rattle.it_tableau.proofs.RowsLemmas.{fault_is_handed_on}
use Rattle.it_tableau.proofs.Zeros.{any_err}
use Rattle.it_tableau.proofs.sparse_rows.SparseRow.divide.Goals as goal

pub returns-in_err-right-clause-wide : goal.returns-in_err-right-clause-wide
returns-in_err-right-clause-wide c =
    any_err c.from_residual.result Wide (¬ (RowQuotientsFit c.args.self.now c.args.pivot))
    (λ fits. c.in_err-right.ensures (right_quotient_fits c.self.inside.width c.self.inside.terms.items c.self.inside.right c.args.pivot
    (subst (λ (row : List Rational). RowQuotientsFit row c.args.pivot) (sym c.self.view_is) fits)))

pub returns-in_err-divide_terms-clause-wide : goal.returns-in_err-divide_terms-clause-wide
returns-in_err-divide_terms-clause-wide c =
    fault_is_handed_on c.from_residual-in_err-divide_terms.result c.in_err-divide_terms.field-0.0 Wide
    (¬ (RowQuotientsFit c.args.self.now c.args.pivot)) c.from_residual-in_err-divide_terms.ensures.1
    (λ e fits. c.in_err-divide_terms.ensures.wide e (subst (λ (ts : RowTerms). TermQuotientsFit ts c.args.pivot) (sym c.as_slice.ensures.value)
    (term_quotients_fit c.self.inside.width c.self.inside.terms.items c.self.inside.right c.args.pivot c.self.invariant
    (subst (λ (row : List Rational). RowQuotientsFit row c.args.pivot) (sym c.self.view_is) fits))))

pub returns-clause-ok : goal.returns-clause-ok
returns-clause-ok c =
    subst (λ (row : List Rational). RowQuotientsFit row c.args.pivot) c.self.view_is
    (row_quotients_fit c.self.inside.width c.self.inside.terms.items c.self.inside.right c.args.pivot
    (subst (λ (ts : RowTerms). TermQuotientsFit ts c.args.pivot) c.as_slice.ensures.value c.in_ok-divide_terms.ensures.ok) c.in_ok-right.ensures.0)

pub returns-clause-value : goal.returns-clause-value
returns-clause-value c =
    subst (λ (row : List Rational). IsDivided row c.args.pivot (dense_row c.self.inside.width c.swap.new.x.items c.in_ok-right.right)) c.self.view_is
    (row_divided c.self.inside.width c.self.inside.terms.items c.self.inside.right c.args.pivot c.swap.new.x.items c.in_ok-right.right
    (subst (λ (ts : RowTerms). AreDivided ts c.args.pivot c.self.inside.width c.swap.new.x.items) c.as_slice.ensures.value
    (subst (AreDivided c.as_slice.result.now c.args.pivot c.self.inside.width)
    (ap (λ v. v.items) (sym c.swap.ensures.x_after)) c.in_ok-divide_terms.ensures.value)) c.in_ok-right.ensures.1)
