use Rattle.std.proofs.Common.{arith}
use Rattle.it_question.proofs.PlaceLemmas.{count_step}
use Rattle.it_question.proofs.places.count.Goals as goal

pub loop-line-preserved : goal.loop-line-preserved
loop-line-preserved c = omega (
  arith,
  c.loop-line.invariant,
  c.len.ensures,
  count_step c.args.lines.now c.loop-line.line-index
      c.line-item.result c.loop-line-test.true c.line-item.is,
)
