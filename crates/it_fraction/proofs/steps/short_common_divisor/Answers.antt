use Rattle.std.proofs.Common.{arith, ◌∙◌, sym}
use Rattle.it_number.proofs.Divisors.{gcd-step, gcd-zero}
use Rattle.it_fraction.proofs.steps.short_common_divisor.Goals as goal

pub loop-smaller-preserved : goal.loop-smaller-preserved
loop-smaller-preserved c = gcd-step c.loop-smaller.larger c.loop-smaller.smaller ∙ c.loop-smaller.invariant

pub returns : goal.returns
returns c = sym (gcd-zero c.loop-smaller.larger c.loop-smaller.smaller (omega arith)) ∙ c.loop-smaller.invariant
