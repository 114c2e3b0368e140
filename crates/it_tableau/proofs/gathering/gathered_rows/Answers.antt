use Rattle.std.proofs.Common.{◌+◌, List, sym, subst}
use Rattle.it_rational.specs.Rational.{Rational}
use Rattle.it_tableau.specs.StartRows.{AreStartRows}
use Rattle.it_tableau.proofs.GatherSteps.{row_taken}
use Rattle.it_tableau.proofs.StartRows.{start_rows_more}
use Rattle.it_tableau.proofs.gathering.gathered_rows.Goals as goal

pub loop-k-preserved : goal.loop-k-preserved
loop-k-preserved c =
    row_taken c.args.coordinates.now c.args.columns.now c.args.target.now c.loop-k.k c.loop-k.lists.items c.take_list-list.new.lists.items
    c.loop-k.rows.items c.push.new.self.items
    c.take_list-list.ensures.others c.loop-k.invariant
    (subst (λ (rows : List (List Rational)). AreStartRows c.args.coordinates.now c.args.columns.now c.args.target.now (c.loop-k.k + 1) rows)
    (sym c.in_ok-push.ensures.items)
    (start_rows_more c.args.coordinates.now c.args.columns.now c.args.target.now c.loop-k.k c.loop-k.rows.items c.in_ok-row.row
    c.loop-k.invariant.done c.in_ok-row.ensures.shows c.in_ok-row.ensures.whole_numbers))
