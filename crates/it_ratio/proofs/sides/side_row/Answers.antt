use Rattle.std.proofs.Common.{Ok, arith, sym, subst}
use Rattle.it_space.specs.Rows.{Terms}
use Rattle.it_space.specs.Spaces.{size_of}
use Rattle.it_ratio.specs.Sides.{RowForms}
use Rattle.it_ratio.proofs.SideSteps.{IsUnderWay, row_canonical, row_done, row_fits, row_more, row_start, row_stops}
use Rattle.it_ratio.proofs.sides.side_row.Goals as goal

pub loop-at-init : goal.loop-at-init
loop-at-init c = subst (IsUnderWay (size_of c.args.space) c.args.num.now c.args.den.now c.args.left.now c.args.right.now 1) (sym c.new-terms.ensures.items)
    (row_start (size_of c.args.space) c.args.num.now c.args.den.now c.args.left.now c.args.right.now)

pub loop-at-preserved : goal.loop-at-preserved
loop-at-preserved c = row_more (size_of c.args.space) c.args.num.now c.args.den.now c.args.left.now c.args.right.now c.loop-at.at c.loop-at.terms.items
    (omega (arith, c.size-at-end.ensures)) c.loop-at.invariant c.push_number.new.terms.items c.in_ok-push_number.ensures.value c.in_ok-push_number.ensures.fits

pub new-requires : goal.new-requires
new-requires c = row_canonical (size_of c.args.space) c.args.num.now c.args.den.now c.args.left.now c.args.right.now c.loop-at.at c.loop-at.terms.items
    (omega (arith, c.size-at-end.ensures)) c.loop-at.invariant

pub returns-in_err-push_number-clause-forms : goal.returns-in_err-push_number-clause-forms
returns-in_err-push_number-clause-forms c = row_stops (size_of c.args.space) c.args.num.now c.args.den.now c.args.left.now c.args.right.now
    c.loop-at.at c.loop-at.terms.items
    (omega (arith, c.size-at-end.ensures)) c.loop-at.invariant c.from_residual.result c.in_err-push_number.field-0.0
    c.from_residual.ensures.1 c.in_err-push_number.ensures.wide

pub returns-clause-forms : goal.returns-clause-forms
returns-clause-forms c = subst (λ (ts : Terms). RowForms (size_of c.args.space) c.args.num.now c.args.den.now c.args.left.now
    c.args.right.now (Ok ts)) (sym c.new.ensures)
    (row_done (size_of c.args.space) c.args.num.now c.args.den.now c.args.left.now c.args.right.now c.loop-at.at c.loop-at.terms.items
    (omega (arith, c.size-at-end.ensures)) c.loop-at.invariant)

pub returns-clause-fits : goal.returns-clause-fits
returns-clause-fits c = row_fits (size_of c.args.space) c.args.num.now c.args.den.now c.args.left.now c.args.right.now c.loop-at.at
    c.loop-at.terms.items (omega (arith, c.size-at-end.ensures)) c.loop-at.invariant
