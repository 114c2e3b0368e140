use Rattle.std.proofs.Common.{◌≡◌, length}
use Rattle.it_engine.specs.Behind.{column_less_moved}
use Rattle.it_engine.proofs.BehindNumbers.{column_more, still_column}
use Rattle.it_engine.proofs.InOrder.{after_row, up_to_end, up_to_row}
use Rattle.it_engine.proofs.leaving.combine_columns.Goals as goal

pub loop-k-preserved : goal.loop-k-preserved
loop-k-preserved c = after_row c.args.block.now.order.now
    (λ q. c.less_moved.new.combined ≡ column_less_moved c.args.columns.now c.args.block.now.rows.now c.args.block.now.basis.now
    c.args.block.now.moved.now c.args.entries.now c.args.multiple c.args.column q)
    c.loop-k.k c.row_at-q.result c.row_at-q.ensures
    (column_more c.args.columns.now c.args.block.now.rows.now c.args.block.now.basis.now c.args.block.now.moved.now c.args.entries.now
    c.args.multiple c.args.column c.row_at-q.result c.loop-k.combined c.less_moved.new.combined
    (rw c.row_at-q.ensures (c.requires.order.own c.loop-k.k c.loop-k-test.true)) c.in_ok-less_moved.ensures
    (up_to_row c.args.block.now.moved.now (length c.args.block.now.basis.now) c.args.block.now.order.now c.requires.order
    (λ q. c.loop-k.combined ≡ column_less_moved c.args.columns.now c.args.block.now.rows.now c.args.block.now.basis.now
    c.args.block.now.moved.now c.args.entries.now c.args.multiple c.args.column q)
    (still_column c.args.columns.now c.args.block.now.rows.now c.args.block.now.basis.now c.args.block.now.moved.now c.args.entries.now
    c.args.multiple c.args.column c.loop-k.combined)
    c.loop-k.k c.row_at-q.result c.loop-k-test.true c.row_at-q.ensures c.loop-k.invariant))

pub returns : goal.returns
returns c = up_to_end c.args.block.now.moved.now (length c.args.block.now.basis.now) c.args.block.now.order.now c.requires.order
    (λ q. c.loop-k.combined ≡ column_less_moved c.args.columns.now c.args.block.now.rows.now c.args.block.now.basis.now
    c.args.block.now.moved.now c.args.entries.now c.args.multiple c.args.column q)
    (still_column c.args.columns.now c.args.block.now.rows.now c.args.block.now.basis.now c.args.block.now.moved.now c.args.entries.now
    c.args.multiple c.args.column c.loop-k.combined)
    c.loop-k.k c.loop-k-test.false c.loop-k.auto.k-end c.loop-k.invariant
