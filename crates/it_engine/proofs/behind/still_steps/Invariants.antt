use Rattle.std.proofs.Common.{length}
use Rattle.it_engine.specs.Behind.{AreBaseBounds, AreMovedInOrder, AreRanked, AreStillSteps, HaveEntered}
use Rattle.it_engine.specs.Engine.{HasRoom}
use Rattle.it_engine.proofs.behind.still_steps.Given as goal

abbrev pub invariant-loop-k : goal.invariant-loop-k
invariant-loop-k l = record {
  steps : AreStillSteps l.run.columns.now l.run.limit l.fn.rows l.fn.basis l.fn.notes.moved.items l.k l.rows l.basis l.notes.moved.items;
  bound_is : AreBaseBounds l.base.bound l.base.bound l.rows l.notes.moved.items (length l.basis);
  ranked_are : AreRanked l.rows l.basis l.notes.moved.items (length l.basis) l.base.ranked.items;
  order_is : AreMovedInOrder l.notes.moved.items (length l.basis) l.notes.order.items;
  entered_are : HaveEntered l.run.columns.now l.basis l.notes.moved.items;
  notes : HasRoom (length l.basis) l.notes;
}
