use Rattle.std.proofs.Common.{arith, ◌∙◌}
use Rattle.it_outside.proofs.Moved.{Gains-take}
use Rattle.it_outside.proofs.whole.write_all.Goals as goal

pub loop-at-preserved : goal.loop-at-preserved
loop-at-preserved g c = (
  omega (arith, c.in-Ok.ensures.bound),
  Gains-take _ _ _ c.args.piece.now c.loop-at.at c.in-Ok.count c.loop-at.invariant.1 c.in-Ok.ensures.bytes,
  c.in-Ok.ensures.counted ∙ c.loop-at.invariant.2,
)
