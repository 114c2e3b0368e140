use Rattle.std.proofs.Common.{ap, arith, sym, ◌∙◌}
use Rattle.std.proofs.lemmas.List.{take_all}
use Rattle.it_tell.specs.SortedRows.{put_in_order, rows_by_rates}
use Rattle.it_tell.proofs.OrderLemmas.{rates_more}
use Rattle.it_tell.proofs.regions.rows_by_rates.Goals as goal

pub loop-row-preserved : goal.loop-row-preserved
loop-row-preserved c =
    let n = c.args.variables in
    let row = c.row-item.result in
    c.in_ok-put_in_order.ensures ∙ ap (put_in_order n row) c.loop-row.invariant
    ∙ sym (rates_more n c.args.rows.now c.loop-row.row-index row (omega arith) (sym c.row-item.is))

pub returns : goal.returns
returns c = c.loop-row.invariant ∙ ap (rows_by_rates c.args.variables) (take_all c.loop-row.row-index c.args.rows.now (omega arith))
