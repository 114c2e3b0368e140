use Rattle.std.proofs.Common.{FitsSigned, to_z-of_z, pos, ◌-ℤ◌, rules, arith}
use Rattle.std.specs.Int.{w128}
use Rattle.std.proofs.lemmas.Int.{ints}
use Rattle.it_fraction.proofs.Signs.{lowest-negated}
use Rattle.it_fraction.proofs.fraction.Fraction.neg.Goals as goal

pub in_lowest_terms-requires-clause-lowest : goal.in_lowest_terms-requires-clause-lowest
in_lowest_terms-requires-clause-lowest c =
    let f : FitsSigned w128 c.self.inside.numerator = search rules in
    let g : FitsSigned w128 (pos 0 -ℤ c.self.inside.numerator) = omega (arith, ints, c.self.invariant.0) in
    simp to_z-of_z (lowest-negated c.self.inside.numerator c.self.inside.denominator c.self.inside.lowest)
