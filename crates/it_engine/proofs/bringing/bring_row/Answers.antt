use Rattle.std.proofs.Common.{◌∙◌, length, arith}
use Rattle.it_engine.proofs.BehindRuns.{IsTakenOff, nothing_off, more_off, still_off, all_off}
use Rattle.it_engine.proofs.InOrder.{after_row, up_to_end, up_to_row}
use Rattle.it_engine.proofs.bringing.bring_row.Goals as goal

pub loop-k-init : goal.loop-k-init
loop-k-init c = record {
  room = c.requires.room;
  usable = c.requires.row;
  taken = nothing_off c.args.run.now.columns.now c.args.run.now.limit c.args.block.now.rows.now c.args.block.now.basis.now
      c.args.block.now.moved.now c.args.row.now;
}

pub loop-k-preserved : goal.loop-k-preserved
loop-k-preserved c = record {
  room = c.take_off_moved.ensures.room ∙ c.loop-k.invariant.room;
  usable = c.if-not-take_off_moved.ensures.usable;
  taken = after_row c.args.block.now.order.now (λ q. IsTakenOff c.args.run.now.columns.now c.args.run.now.limit c.args.block.now.rows.now
      c.args.block.now.basis.now c.args.block.now.moved.now c.args.row.now q c.take_off_moved.new.row)
      c.loop-k.k c.row_at-q.result c.row_at-q.ensures
      (more_off c.args.run.now.columns.now c.args.run.now.limit c.args.block.now.rows.now c.args.block.now.basis.now
      c.args.block.now.moved.now c.args.row.now c.row_at-q.result c.loop-k.row c.take_off_moved.new.row
      (rw c.row_at-q.ensures (c.requires.order.within c.loop-k.k c.loop-k-test.true))
      (rw c.row_at-q.ensures (c.requires.order.own c.loop-k.k c.loop-k-test.true))
      (up_to_row c.args.block.now.moved.now (length c.args.block.now.basis.now) c.args.block.now.order.now c.requires.order
      (λ q. IsTakenOff c.args.run.now.columns.now c.args.run.now.limit c.args.block.now.rows.now c.args.block.now.basis.now
      c.args.block.now.moved.now c.args.row.now q c.loop-k.row)
      (still_off c.args.run.now.columns.now c.args.run.now.limit c.args.block.now.rows.now c.args.block.now.basis.now
      c.args.block.now.moved.now c.args.row.now c.loop-k.row)
      c.loop-k.k c.row_at-q.result c.loop-k-test.true c.row_at-q.ensures c.loop-k.invariant.taken)
      c.if-not-take_off_moved.ensures.less);
}

pub returns-clause-brought : goal.returns-clause-brought
returns-clause-brought c = all_off c.args.run.now.columns.now c.args.run.now.limit c.args.block.now.rows.now c.args.block.now.basis.now
    c.args.block.now.moved.now c.args.row.now c.loop-k.row (length c.args.block.now.basis.now)
    (omega arith)
    (up_to_end c.args.block.now.moved.now (length c.args.block.now.basis.now) c.args.block.now.order.now c.requires.order
    (λ q. IsTakenOff c.args.run.now.columns.now c.args.run.now.limit c.args.block.now.rows.now c.args.block.now.basis.now
    c.args.block.now.moved.now c.args.row.now q c.loop-k.row)
    (still_off c.args.run.now.columns.now c.args.run.now.limit c.args.block.now.rows.now c.args.block.now.basis.now
    c.args.block.now.moved.now c.args.row.now c.loop-k.row)
    c.loop-k.k c.loop-k-test.false c.loop-k.auto.k-end c.loop-k.invariant.taken)
