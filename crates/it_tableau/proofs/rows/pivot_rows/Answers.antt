use Rattle.std.proofs.Common.{◌<◌, ◌+◌, length, List, slice_index_or, refl, sym, subst, arith}
use Rattle.std.proofs.lemmas.List.{length-set}
use Rattle.it_rational.specs.Rational.{Rational, times, inverse}
use Rattle.it_space.specs.declared.faults.RowFault.TheVariants.{Wide}
use Rattle.it_tableau.specs.Entries.{entry_at, row_at}
use Rattle.it_tableau.specs.Rows.{RowQuotientsFit, IsReduced, RowStepFits, RowsPivotFits}
use Rattle.it_tableau.proofs.RowsLemmas.{fault_is_handed_on}
use Rattle.it_tableau.proofs.PivotLemmas.{IsPivotUnderWay, row_is_unchanged, pivot_ends, row_refuses_pivot, own_row_is_skipped, row_is_reduced}
use Rattle.it_tableau.proofs.rows.pivot_rows.Goals as goal
use Rattle.it_tableau.proofs.rows.pivot_rows.Goals.{then-i-r+in_ok-reduce, else-i-r}

pub returns-in_err-reduce-clause-wide : goal.returns-in_err-reduce-clause-wide
returns-in_err-reduce-clause-wide c =
    let inside : c.loop-i.i < length c.args.rows.now = omega (arith, c.loop-i-test.true, length-set c.args.rows.now c.args.r c.replace-own.new.dest) in
    let row = row_is_unchanged c.args.rows.now c.loop-i.rows c.replace-own.result c.args.r c.args.c c.loop-i.i c.read-pivot.result
    c.index-rows-i.result (slice_index_or c.loop-i.rows c.loop-i.i c.index-rows-i.result) refl
    (omega (arith, inside, c.loop-i.invariant.same)) c.if-i-r.true c.loop-i.invariant in
    fault_is_handed_on c.from_residual.result c.in_err-reduce.field-0.0 Wide (¬ (RowsPivotFits c.args.rows.now c.args.r c.args.c)) c.from_residual.ensures.1
    (λ e. row_refuses_pivot c.args.rows.now c.loop-i.rows c.replace-own.result c.args.r c.args.c c.loop-i.i c.read-pivot.result inside
    c.if-i-r.true c.loop-i.invariant
    (λ fit. c.in_err-reduce.ensures.wide e (subst (λ (x : List Rational). RowStepFits x c.replace-own.result c.args.c c.read-pivot.result) (sym row) fit)))

pub loop-i-preserved : goal.loop-i-preserved
loop-i-preserved c = elim c.if-i-r.branch [
  | then-i-r+in_ok-reduce w ↦
      let reached : c.loop-i.i < length c.loop-i.rows = omega (
        arith,
        c.loop-i-test.true,
        length-set c.args.rows.now c.args.r
            c.replace-own.new.dest,
        c.loop-i.invariant.same,
      ) in
      let row = row_is_unchanged c.args.rows.now c.loop-i.rows c.replace-own.result c.args.r c.args.c c.loop-i.i c.read-pivot.result
      w.index-rows-i.result (slice_index_or c.loop-i.rows c.loop-i.i w.index-rows-i.result) refl
      reached w.if-i-r.true c.loop-i.invariant in
      subst (λ (l : List (List Rational)). IsPivotUnderWay c.args.rows.now l c.replace-own.result c.args.r c.args.c
      (c.loop-i.i + 1) c.read-pivot.result) (sym w.rows-is)
      (row_is_reduced c.args.rows.now c.loop-i.rows c.replace-own.result w.reduce.new.self c.args.r c.args.c c.loop-i.i c.read-pivot.result reached
      (subst (λ (x : List Rational). RowStepFits x c.replace-own.result c.args.c c.read-pivot.result) row w.in_ok-reduce.ensures.ok)
      (subst (λ (x : List Rational). IsReduced x c.replace-own.result (times (entry_at x c.args.c) (inverse c.read-pivot.result))
      w.reduce.new.self) row w.in_ok-reduce.ensures.value)
      c.loop-i.invariant)
  | else-i-r w ↦
      subst (λ (l : List (List Rational)). IsPivotUnderWay c.args.rows.now l c.replace-own.result c.args.r c.args.c
      (c.loop-i.i + 1) c.read-pivot.result) (sym w.rows-is)
      (own_row_is_skipped c.args.rows.now c.loop-i.rows c.replace-own.result c.args.r c.args.c c.loop-i.i c.read-pivot.result
      (omega (arith, w.if-i-r.false)) c.loop-i.invariant)
]

pub returns-in_err-divide-clause-wide : goal.returns-in_err-divide-clause-wide
returns-in_err-divide-clause-wide c =
    fault_is_handed_on c.from_residual-in_err-divide.result c.in_err-divide.field-0.0 Wide
    (¬ (RowsPivotFits c.args.rows.now c.args.r c.args.c)) c.from_residual-in_err-divide.ensures.1
    (λ e fits. c.in_err-divide.ensures.wide e
    (subst (λ (x : List Rational). RowQuotientsFit x c.read-pivot.result) (sym c.loop-i.invariant.own_is)
    (subst (λ (p : Rational). RowQuotientsFit (row_at c.args.rows.now c.args.r) p) (sym c.loop-i.invariant.p_is) fits.own)))

pub returns-clause-value : goal.returns-clause-value
returns-clause-value c =
    pivot_ends c.args.rows.now c.loop-i.rows c.replace-own.result c.divide.new.self c.args.r c.args.c c.loop-i.i c.read-pivot.result c.requires.row
    (omega (arith, c.loop-i-test.false, length-set c.args.rows.now c.args.r c.replace-own.new.dest)) c.loop-i.invariant c.in_ok-divide.ensures.value
