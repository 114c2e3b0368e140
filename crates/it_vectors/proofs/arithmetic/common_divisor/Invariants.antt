use Rattle.std.proofs.Common.{◌≡◌}
use Rattle.it_number.specs.Gcd.{gcd}
use Rattle.it_vectors.proofs.arithmetic.common_divisor.Given as goal

abbrev pub invariant-loop-smaller : goal.invariant-loop-smaller
invariant-loop-smaller l = gcd l.larger l.smaller ≡ gcd l.fn.a l.fn.b

abbrev pub decreases-loop-smaller : goal.decreases-loop-smaller
decreases-loop-smaller l = l.smaller
