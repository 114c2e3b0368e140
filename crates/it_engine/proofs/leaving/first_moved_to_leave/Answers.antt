use Rattle.std.proofs.Common.{length}
use Rattle.it_engine.specs.Behind.{HasZeroRatio, IsFirstOf}
use Rattle.it_engine.proofs.InOrder.{after_row, up_to_end, up_to_row}
use Rattle.it_engine.proofs.RankedRows.{first_past_behind}
use Rattle.it_engine.proofs.leaving.first_moved_to_leave.Goals as goal

pub loop-k-preserved : goal.loop-k-preserved
loop-k-preserved c = after_row c.args.block.now.order.now (λ q. IsFirstOf c.args.block.now.basis.now
    (HasZeroRatio c.args.block.now.rows.now c.args.entries.now (length c.args.block.now.basis.now)) q c.earlier_row-best.result) c.loop-k.k
    c.row_at-q.result
    c.row_at-q.ensures (c.earlier_row-best.ensures (up_to_row c.args.block.now.moved.now
    (length c.args.block.now.basis.now) c.args.block.now.order.now c.requires.order
    (λ q. IsFirstOf c.args.block.now.basis.now (HasZeroRatio c.args.block.now.rows.now c.args.entries.now (length c.args.block.now.basis.now)) q c.loop-k.best)
    (λ q. first_past_behind c.args.block.now.rows.now c.args.block.now.basis.now c.args.block.now.moved.now c.args.entries.now
    (length c.args.block.now.basis.now) c.requires.others q c.loop-k.best)
    c.loop-k.k c.row_at-q.result c.loop-k-test.true c.row_at-q.ensures c.loop-k.invariant))

pub returns : goal.returns
returns c = up_to_end c.args.block.now.moved.now (length c.args.block.now.basis.now) c.args.block.now.order.now c.requires.order
    (λ q. IsFirstOf c.args.block.now.basis.now (HasZeroRatio c.args.block.now.rows.now c.args.entries.now (length c.args.block.now.basis.now)) q c.loop-k.best)
    (λ q. first_past_behind c.args.block.now.rows.now c.args.block.now.basis.now c.args.block.now.moved.now c.args.entries.now
    (length c.args.block.now.basis.now) c.requires.others q c.loop-k.best)
    c.loop-k.k c.loop-k-test.false c.loop-k.auto.k-end c.loop-k.invariant
