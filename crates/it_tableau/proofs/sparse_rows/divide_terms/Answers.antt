use Rattle.std.proofs.Common.{◌∙◌, ℕ, sym, ap, subst, arith}
use Rattle.it_rational.specs.Rational.{Rational, times, inverse}
use Rattle.it_fraction.specs.Fits.{IsNarrow}
use Rattle.it_space.specs.declared.faults.RowFault.TheVariants.{Wide}
use Rattle.it_tableau.specs.Merging.{IsAppended, TermQuotientsFit}
use Rattle.it_tableau.proofs.DivisionSteps.{IsDividing, all_quotients_fit, division_ends, term_is_divided, division_begins, refused_quotient}
use Rattle.it_tableau.proofs.Zeros.{any_err}
use Rattle.it_tableau.proofs.sparse_rows.divide_terms.Goals as goal

pub loop-i-init : goal.loop-i-init
loop-i-init c = subst (IsDividing c.args.width c.args.terms.now c.args.pivot 0) (sym c.clear.ensures.items)
    (division_begins c.args.width c.args.terms.now c.args.pivot c.requires.terms)

pub returns-in_err-div-clause-wide : goal.returns-in_err-div-clause-wide
returns-in_err-div-clause-wide c =
    any_err c.from_residual.result Wide (¬ (TermQuotientsFit c.args.terms.now c.args.pivot))
    (refused_quotient c.args.width c.args.terms.now c.args.pivot c.loop-i.i c.loop-i.buffer.items c.loop-i.invariant c.loop-i-test.true
    (subst (λ (y : Rational). ¬ (IsNarrow (times y (inverse c.args.pivot)))) c.term.ensures.value c.in_err-div.ensures))

pub loop-i-preserved : goal.loop-i-preserved
loop-i-preserved c =
    let v = c.in_ok-div.field-0 in
    term_is_divided c.args.width c.args.terms.now c.args.pivot c.loop-i.i c.loop-i.buffer.items c.loop-i.invariant c.append.new.terms.items v c.loop-i-test.true
    (subst (λ (y : Rational). IsNarrow (times y (inverse c.args.pivot))) c.term.ensures.value c.in_ok-div.ensures.0)
    (c.in_ok-div.ensures.1 ∙ ap (λ (y : Rational). times y (inverse c.args.pivot)) c.term.ensures.value)
    (subst (λ (n : ℕ). IsAppended c.loop-i.buffer.items n v c.append.new.terms.items) c.column.ensures c.in_ok-append.ensures)

pub returns-clause-ok : goal.returns-clause-ok
returns-clause-ok c = all_quotients_fit c.args.width c.args.terms.now c.args.pivot c.loop-i.i c.loop-i.buffer.items c.loop-i.invariant
    (omega (arith, c.loop-i-test.false))

pub returns-clause-value : goal.returns-clause-value
returns-clause-value c = division_ends c.args.width c.args.terms.now c.args.pivot c.loop-i.i c.loop-i.buffer.items c.loop-i.invariant
    (omega (arith, c.loop-i-test.false))
