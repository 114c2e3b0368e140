use Rattle.std.proofs.Common.{◌≡◌, ◌+◌, ℕ, List, length, ap, arith, subst, sym, ◌∙◌}
use Rattle.it_rational.specs.Rational.{Rational, minus}
use Rattle.it_tableau.specs.Entries.{entry_at}
use Rattle.it_tableau.specs.Rows.{column_sum, ColumnFits, ListsValues}
use Rattle.it_tableau.proofs.Building.{IsBuilt, built_more}
use Rattle.it_tableau.proofs.DenseRows.{row_shows}
use Rattle.it_tableau.proofs.costs.cost_row.Goals as goal

pub loop-j-preserved : goal.loop-j-preserved
loop-j-preserved c = built_more (λ j. minus (column_sum c.args.rows.now j (length c.args.rows.now)))
    (ColumnFits c.args.rows.now) c.loop-j.j c.loop-j.terms.items c.append.new.terms.items
    c.neg.result c.in_ok-append.ensures (c.neg.ensures ∙ ap minus (c.sum_at.ensures
    ∙ ap (λ (sums : List Rational). entry_at sums c.loop-j.j) c.as_slice.ensures.value
    ∙ c.in_ok-sums.ensures.value.entries c.loop-j.j c.loop-j-test.true))
    (c.in_ok-sums.ensures.ok c.loop-j.j c.loop-j-test.true) c.loop-j.invariant

pub returns-clause-value : goal.returns-clause-value
returns-clause-value c =
    let done : c.loop-j.j ≡ c.args.width = omega (arith, c.loop-j-test.false, c.loop-j.auto.j-end) in
    subst (ListsValues (λ j. minus (column_sum c.args.rows.now j (length c.args.rows.now))) (c.args.width + 1)) (sym c.new.ensures)
    (row_shows (λ j. minus (column_sum c.args.rows.now j (length c.args.rows.now)))
    (ColumnFits c.args.rows.now) c.args.width c.loop-j.terms.items c.in_ok-right.right
    (subst (λ (n : ℕ). IsBuilt (λ j. minus (column_sum c.args.rows.now j (length c.args.rows.now)))
    (ColumnFits c.args.rows.now) n c.loop-j.terms.items) done c.loop-j.invariant)
    c.in_ok-right.ensures.value)
