use Rattle.std.proofs.Common.{◌+◌, length, subst, sym}
use Rattle.it_tableau.specs.StartRows.{start_number}
use Rattle.it_tableau.specs.Merging.{IsAppended}
use Rattle.it_tableau.specs.Rows.{ListsValues}
use Rattle.it_tableau.specs.SparseRows.{RowTerms}
use Rattle.it_tableau.proofs.GatherSteps.{row_climbs, row_finished, row_wholes}
use Rattle.it_tableau.proofs.gathering.finished_row.Goals as goal
use Rattle.it_tableau.proofs.gathering.finished_row.Goals.{In_ok-append}

-- the artificial column is put after the row's terms
put : (c : In_ok-append) → IsAppended c.args.list (length c.args.columns.now + c.args.k) c.start_entry-unit.result c.append.new.terms.items
put c = subst (λ (ts : RowTerms). IsAppended ts (length c.args.columns.now + c.args.k) c.start_entry-unit.result c.append.new.terms.items)
    c.into_terms-terms.ensures c.in_ok-append.ensures

pub new-requires : goal.new-requires
new-requires c = row_climbs c.args.coordinates.now c.args.columns.now c.args.target.now c.args.k c.requires.row c.args.list
    c.append.new.terms.items c.requires.terms
    c.start_entry-unit.result c.start_entry-unit.ensures.whole_number c.start_entry-unit.ensures.value (put c)

pub returns-clause-shows : goal.returns-clause-shows
returns-clause-shows c = subst (ListsValues (start_number c.args.coordinates.now c.args.columns.now c.args.target.now c.args.k)
    (length c.args.columns.now + length c.args.coordinates.now + 1)) (sym c.new.ensures)
    (row_finished c.args.coordinates.now c.args.columns.now c.args.target.now c.args.k c.requires.row c.args.list c.append.new.terms.items c.requires.terms
    c.start_entry-unit.result c.start_entry-unit.ensures.whole_number c.start_entry-unit.ensures.value (put (goal.at.returns-clause-shows c).In_ok-append)
    c.start_entry-right.result c.start_entry-right.ensures.whole_number c.start_entry-right.ensures.value)

pub returns-clause-whole_numbers : goal.returns-clause-whole_numbers
returns-clause-whole_numbers c = row_wholes c.args.coordinates.now c.args.columns.now c.args.target.now c.args.k c.requires.row c.args.list
    c.append.new.terms.items c.requires.terms
    c.start_entry-unit.result c.start_entry-unit.ensures.whole_number c.start_entry-unit.ensures.value
    (put (goal.at.returns-clause-whole_numbers c).In_ok-append)
    c.start_entry-right.result c.start_entry-right.ensures.whole_number c.start_entry-right.ensures.value
