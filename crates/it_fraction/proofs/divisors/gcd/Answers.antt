use Rattle.std.proofs.Common.{◌≡◌, ◌<◌, ◌^◌, ◌∙◌, arith, ap, pos, unsigned_abs, FitsSigned, to_z-of_z}
use Rattle.std.proofs.lemmas.Int.{ints, to_z_pos}
use Rattle.std.specs.Int.{w128}
use Rattle.it_number.specs.Gcd.{gcd}
use Rattle.it_fraction.proofs.DivisorLemmas.{gcd-within}
use Rattle.it_fraction.proofs.divisors.gcd.Goals as goal
use Rattle.it_fraction.proofs.divisors.gcd.Goals.{After-common_divisor}

common_is : (c : After-common_divisor) → c.common_divisor.result ≡ gcd (unsigned_abs c.args.a) (unsigned_abs c.args.b)
common_is c =
    let fa : FitsSigned w128 c.args.a = c.ranges.a in
    let fb : FitsSigned w128 c.args.b = c.ranges.b in
    rw (c.common_divisor.ensures.value, c.unsigned_abs.ensures.value, c.unsigned_abs-2.ensures.value) (simp to_z-of_z)

common_within : (c : After-common_divisor) → c.common_divisor.result < 2 ^ 127
common_within c = rw (common_is c) (gcd-within c.args.a c.args.b c.requires.a_within c.requires.b_within)

pub overflow_cast-result : goal.overflow_cast-result
overflow_cast-result c = omega (arith, ints, common_within (goal.at.overflow_cast-result c).After-common_divisor)

pub returns : goal.returns
returns c =
    let g = (goal.at.returns c).After-common_divisor in
    let e = to_z_pos w128 c.common_divisor.result (common_within g) in
    record { value = e ∙ ap pos (common_is g); within = rw e (common_within g) }
