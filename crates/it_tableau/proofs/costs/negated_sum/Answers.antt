use Rattle.std.proofs.Common.{◌≡◌, suc, ◌+◌, List, ap, sym, ◌∙◌, subst, arith}
use Rattle.it_fraction.specs.Fits.{SumFits}
use Rattle.it_rational.specs.Rational.{Rational, plus}
use Rattle.it_tableau.specs.Entries.{entry_at, row_at}
use Rattle.it_tableau.specs.Rows.{column_sum, ColumnFits}
use Rattle.it_tableau.proofs.RowsLemmas.{fits_more, on_err}
use Rattle.it_tableau.proofs.costs.negated_sum.Goals as goal

pub returns-in_err-sum-clause-err : goal.returns-in_err-sum-clause-err
returns-in_err-sum-clause-err c =
    let rows : List (List Rational) = c.args.rows.now in
    on_err c.from_residual.result (¬ (ColumnFits rows c.args.j))
    (λ fit. c.in_err-sum.ensures (subst (λ (x : Rational). SumFits x c.loop-i.sum) (sym c.read.ensures)
    (subst (SumFits (entry_at (row_at rows c.loop-i.i) c.args.j)) (sym c.loop-i.invariant.sum_is) (fit c.loop-i.i (omega (arith, c.loop-i-test.true))))))

pub loop-i-preserved : goal.loop-i-preserved
loop-i-preserved c =
    let rows : List (List Rational) = c.args.rows.now in
    let one : suc c.loop-i.i ≡ c.loop-i.i + 1 = omega arith in record {
      sum_is = c.in_ok-sum.ensures.1 ∙ ap (λ x. plus x c.loop-i.sum) c.read.ensures
          ∙ ap (plus (entry_at (row_at rows c.loop-i.i) c.args.j)) c.loop-i.invariant.sum_is
          ∙ ap (column_sum rows c.args.j) one;
      fits = fits_more c.loop-i.i (λ k. SumFits (entry_at (row_at rows k) c.args.j) (column_sum rows c.args.j k)) c.loop-i.invariant.fits
          (subst (λ (x : Rational). SumFits x (column_sum rows c.args.j c.loop-i.i)) c.read.ensures
          (subst (SumFits c.read.result) c.loop-i.invariant.sum_is c.in_ok-sum.ensures.0));
    }
