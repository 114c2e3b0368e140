use Rattle.std.proofs.Common.{arith}
use Rattle.it_outside.proofs.Moved.{gave_at_most, gave_more}
use Rattle.it_outside.proofs.whole.read_all.Goals as goal

pub returns-then-count-limit-clause-long : goal.returns-then-count-limit-clause-long
returns-then-count-limit-clause-long g c = λ _. gave_more _ _ _ c.loop-count.bytes.items c.read.new.buf c.in-Ok.count c.args.limit
    c.loop-count.invariant.1 c.in-Ok.ensures.bytes.0 (omega (arith, c.in-Ok.ensures.bound)) (omega arith)

-- the bytes for which allocation failed had been given too
pub returns-then-is_err-clause-lost : goal.returns-then-is_err-clause-lost
returns-then-is_err-clause-lost g c = λ _. gave_at_most _ _ _ c.loop-count.bytes.items c.read.new.buf c.in-Ok.count c.args.limit
    c.loop-count.invariant.1 c.in-Ok.ensures.bytes.0 (omega (arith, c.in-Ok.ensures.bound)) (omega arith)
