use Rattle.std.proofs.Common.{◌≡◌, ◌+◌, ℕ, length, arith, subst, sym}
use Rattle.it_tableau.specs.Operations.{rationals}
use Rattle.it_tableau.specs.Problems.{feasibility_problem}
use Rattle.it_tableau.specs.Rows.{IsWholeNumber, ListsValues}
use Rattle.it_tableau.specs.SimplexTables.{start_row}
use Rattle.it_tableau.proofs.Building.{IsBuilt, built_more}
use Rattle.it_tableau.proofs.DenseRows.{row_shows}
use Rattle.it_tableau.proofs.start.start_row.Goals as goal

pub loop-j-preserved : goal.loop-j-preserved
loop-j-preserved c = built_more (start_row rationals (length c.args.coordinates.now) (length c.args.columns.now)
    (feasibility_problem c.args.coordinates.now c.args.columns.now c.args.target.now) c.args.k)
    (λ j. IsWholeNumber (start_row rationals (length c.args.coordinates.now) (length c.args.columns.now)
    (feasibility_problem c.args.coordinates.now c.args.columns.now c.args.target.now) c.args.k j)) c.loop-j.j c.loop-j.terms.items
    c.append.new.terms.items c.start_entry.result c.in_ok-append.ensures c.start_entry.ensures.value
    (subst IsWholeNumber c.start_entry.ensures.value c.start_entry.ensures.whole_number) c.loop-j.invariant

pub returns-clause-shows : goal.returns-clause-shows
returns-clause-shows c =
    let done : c.loop-j.j ≡ length c.args.columns.now + length c.args.coordinates.now = omega (arith, c.loop-j-test.false, c.loop-j.auto.j-end) in
    subst (ListsValues (start_row rationals (length c.args.coordinates.now) (length c.args.columns.now)
    (feasibility_problem c.args.coordinates.now c.args.columns.now c.args.target.now) c.args.k)
    (length c.args.columns.now + length c.args.coordinates.now + 1)) (sym c.new.ensures)
    (row_shows (start_row rationals (length c.args.coordinates.now) (length c.args.columns.now)
    (feasibility_problem c.args.coordinates.now c.args.columns.now c.args.target.now) c.args.k)
    (λ j. IsWholeNumber (start_row rationals (length c.args.coordinates.now) (length c.args.columns.now)
    (feasibility_problem c.args.coordinates.now c.args.columns.now c.args.target.now) c.args.k j))
    (length c.args.columns.now + length c.args.coordinates.now) c.loop-j.terms.items c.start_entry-right.result
    (subst (λ (n : ℕ). IsBuilt (start_row rationals (length c.args.coordinates.now) (length c.args.columns.now)
    (feasibility_problem c.args.coordinates.now c.args.columns.now c.args.target.now) c.args.k)
    (λ j. IsWholeNumber (start_row rationals (length c.args.coordinates.now) (length c.args.columns.now)
    (feasibility_problem c.args.coordinates.now c.args.columns.now c.args.target.now) c.args.k j)) n c.loop-j.terms.items) done
    c.loop-j.invariant)
    c.start_entry-right.ensures.value)
