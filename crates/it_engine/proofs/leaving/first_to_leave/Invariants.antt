use Rattle.it_engine.proofs.RankedRows.{NoneLeaves}
use Rattle.it_engine.proofs.leaving.first_to_leave.Given as goal

abbrev pub invariant-loop-k : goal.invariant-loop-k
invariant-loop-k l = NoneLeaves l.block.rows.now l.block.basis.now l.block.moved.now l.entries l.combined l.ranked l.k
