use Rattle.std.proofs.Common.{length}
use Rattle.it_engine.specs.Behind.{AreShares}
use Rattle.it_engine.proofs.BehindNumbers.{first_shares, same_shares}
use Rattle.it_engine.proofs.InOrder.{after_row, up_to_end, up_to_row}
use Rattle.it_engine.proofs.shares.shares_of_moved.Goals as goal

pub loop-k-init : goal.loop-k-init
loop-k-init c = first_shares c.args.norm c.args.block.now.rows.now c.args.block.now.moved.now

pub more_shares-requires-clause-shares : goal.more_shares-requires-clause-shares
more_shares-requires-clause-shares c = up_to_row c.args.block.now.moved.now (length c.args.block.now.basis.now) c.args.block.now.order.now c.requires.order
    (λ q. AreShares c.args.norm c.args.block.now.rows.now c.args.block.now.moved.now q c.loop-k.shares.multiple c.loop-k.shares.bound)
    (λ q. same_shares c.args.norm c.args.block.now.rows.now c.args.block.now.moved.now c.loop-k.shares.multiple c.loop-k.shares.bound q)
    c.loop-k.k c.row_at-q.result c.loop-k-test.true c.row_at-q.ensures c.loop-k.invariant

pub loop-k-preserved : goal.loop-k-preserved
loop-k-preserved c = after_row c.args.block.now.order.now (λ q. AreShares c.args.norm c.args.block.now.rows.now c.args.block.now.moved.now q
    c.in_ok-shares.shares.multiple c.in_ok-shares.shares.bound) c.loop-k.k c.row_at-q.result
    c.row_at-q.ensures c.in_ok-shares.ensures

pub returns : goal.returns
returns c = up_to_end c.args.block.now.moved.now (length c.args.block.now.basis.now) c.args.block.now.order.now c.requires.order
    (λ q. AreShares c.args.norm c.args.block.now.rows.now c.args.block.now.moved.now q c.loop-k.shares.multiple c.loop-k.shares.bound)
    (λ q. same_shares c.args.norm c.args.block.now.rows.now c.args.block.now.moved.now c.loop-k.shares.multiple c.loop-k.shares.bound q)
    c.loop-k.k c.loop-k-test.false c.loop-k.auto.k-end c.loop-k.invariant
