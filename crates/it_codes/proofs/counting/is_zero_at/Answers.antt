use Rattle.std.proofs.Common.{◌+◌, ◌*◌, ◌%◌, nat_eq, get_or, ap}
use Rattle.it_codes.specs.Codes.{value_at}
use Rattle.it_codes.proofs.CountingLemmas.{value_step, value_end, remainder_below}
use Rattle.it_codes.proofs.counting.is_zero_at.Goals as goal

pub loop-coefficient-preserved : goal.loop-coefficient-preserved
loop-coefficient-preserved c = (
  remainder_below (c.loop-coefficient.sum + get_or c.args.function.now c.loop-coefficient.coefficient-index 0 *
      (c.loop-coefficient.left % c.args.size)) c.args.size c.requires.some,
  value_step c.args.size c.args.function.now c.loop-coefficient.coefficient-index c.loop-coefficient.sum c.loop-coefficient.left
      (value_at c.args.size c.args.function.now c.args.message % c.args.size) c.loop-coefficient-test.true c.loop-coefficient.invariant.1,
)

pub returns : goal.returns
returns c = ap (λ n. nat_eq n 0) (value_end c.args.size c.args.function.now c.loop-coefficient.coefficient-index c.loop-coefficient.sum c.loop-coefficient.left
    (value_at c.args.size c.args.function.now c.args.message % c.args.size) c.loop-coefficient-test.false c.loop-coefficient.invariant.0
    c.loop-coefficient.invariant.1)
