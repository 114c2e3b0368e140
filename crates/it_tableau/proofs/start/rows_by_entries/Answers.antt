use Rattle.std.proofs.Common.{◌+◌, sym, subst}
use Rattle.it_tableau.specs.StartRows.{AreStartRows}
use Rattle.it_tableau.proofs.StartRows.{start_rows_more}
use Rattle.it_tableau.proofs.start.rows_by_entries.Goals as goal

pub loop-k-preserved : goal.loop-k-preserved
loop-k-preserved c =
    subst (AreStartRows c.args.coordinates.now c.args.columns.now c.args.target.now (c.loop-k.k + 1)) (sym c.in_ok-push.ensures.items)
    (start_rows_more c.args.coordinates.now c.args.columns.now c.args.target.now c.loop-k.k c.loop-k.rows.items c.in_ok-start_row.field-0
    c.loop-k.invariant c.in_ok-start_row.ensures.shows c.in_ok-start_row.ensures.whole_numbers)
