use Rattle.std.proofs.Common.{arith, ◌∙◌, sym}
use Rattle.it_number.proofs.Divisors.{gcd-step, gcd-zero}
use Rattle.it_fraction.proofs.steps.long_common_divisor.Goals as goal

pub loop-smaller-preserved : goal.loop-smaller-preserved
loop-smaller-preserved c = gcd-step c.loop-smaller.larger c.loop-smaller.smaller ∙ c.loop-smaller.invariant

pub returns-then-smaller-eq0 : goal.returns-then-smaller-eq0
returns-then-smaller-eq0 c = sym (gcd-zero c.loop-smaller.larger c.loop-smaller.smaller (omega arith)) ∙ c.loop-smaller.invariant

pub returns : goal.returns
returns c = c.from-2.ensures ∙ c.short_common_divisor.ensures ∙ gcd-step c.loop-smaller.larger c.loop-smaller.smaller ∙ c.loop-smaller.invariant
