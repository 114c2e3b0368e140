use Rattle.std.proofs.Common.{FitsSigned, to_z-of_z, to_z, of_z, pos, ◌*ℤ◌, sym, ap}
use Rattle.std.specs.Int.{w128}
use Rattle.it_rational.proofs.Names.{quotient_is}
use Rattle.it_fraction.proofs.fraction.in_lowest_terms.Goals as goal

pub invariant_of-result : goal.invariant_of-result
invariant_of-result c =
    let f : FitsSigned w128 c.args.numerator = c.ranges.numerator in
    simp to_z-of_z (c.requires.some, (c.requires.lowest, tt))

pub returns : goal.returns
returns c =
    let f : FitsSigned w128 c.args.numerator = c.ranges.numerator in
    sym (quotient_is (to_z w128 (of_z w128 c.args.numerator)) c.args.numerator c.args.denominator c.args.denominator c.requires.some _ _
    (ap (λ z. z *ℤ pos c.args.denominator) (to_z-of_z f)))
