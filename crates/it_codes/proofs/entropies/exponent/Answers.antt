use Rattle.std.proofs.Common.{◌≤◌, ◌<◌, ◌*◌, arith}
use Rattle.std.proofs.Math.Nat.{mul-le-mul_left}
use Rattle.it_codes.proofs.EntropyLemmas.{next_power, below_next, none_reached}
use Rattle.it_codes.proofs.entropies.exponent.Goals as goal

pub loop-reached-preserved : goal.loop-reached-preserved
loop-reached-preserved c = (
  next_power c.args.count c.args.size c.loop-reached.h c.loop-reached.reached c.loop-reached.invariant.0,
  (let twice : c.loop-reached.reached * 2 ≤ c.loop-reached.reached * c.args.size = mul-le-mul_left c.loop-reached.reached c.requires.some
      in omega (arith, c.loop-reached.invariant.1)),
  below_next c.args.count c.args.size c.args.total c.loop-reached.h c.loop-reached.reached c.loop-reached.invariant.0
      c.loop-reached-test.true c.loop-reached.invariant.2,
  omega (arith, c.loop-reached.invariant.1, c.loop-reached-test.true, c.requires.most),
)

pub returns-else-reached-total-clause-none : goal.returns-else-reached-total-clause-none
returns-else-reached-total-clause-none c =
    let past : c.args.total < c.loop-reached.reached = omega (arith, c.loop-reached-test.false, c.if-reached-total.false) in
    none_reached c.args.count c.args.size c.args.total c.loop-reached.h c.loop-reached.reached c.requires.some c.loop-reached.invariant.0
    c.loop-reached.invariant.2 past
