use Rattle.it_engine.specs.Behind.{after_rows, AreShares}
use Rattle.it_engine.proofs.shares.shares_of_moved.Given as goal

abbrev pub invariant-loop-k : goal.invariant-loop-k
invariant-loop-k l = AreShares l.norm l.block.rows.now l.block.moved.now (after_rows l.block.order.now l.k) l.shares.multiple l.shares.bound
