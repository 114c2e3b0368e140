use Rattle.std.proofs.Common.{◌-ℤ◌, pos, unsigned_abs, FitsSigned, to_z-of_z, rules, arith}
use Rattle.std.proofs.lemmas.Int.{ints, to_z_pos}
use Rattle.std.specs.Int.{w128}
use Rattle.std.proofs.lemmas.Nat.Gcd.{IsGcd-swap}
use Rattle.it_fraction.proofs.fraction.Fraction.inverse.Goals as goal
use Rattle.it_fraction.proofs.Signs.{unsigned_abs-negated}

pub in_lowest_terms-requires-clause-lowest : goal.in_lowest_terms-requires-clause-lowest
in_lowest_terms-requires-clause-lowest c =
    let f : FitsSigned w128 c.self.inside.numerator = search rules in
    let b = simp to_z-of_z at c.unsigned_abs-denominator.ensures.value in
    let p = to_z_pos w128 c.self.inside.denominator c.self.invariant.1 in
    let g : FitsSigned w128 (pos 0 -ℤ pos c.self.inside.denominator) = omega (arith, ints, c.self.invariant.1) in
    rw (p, to_z-of_z g, unsigned_abs-negated (pos c.self.inside.denominator), b)
    (IsGcd-swap (unsigned_abs c.self.inside.numerator) c.self.inside.denominator 1 c.self.inside.lowest)

pub in_lowest_terms-requires-else-self-lt0-clause-lowest : goal.in_lowest_terms-requires-else-self-lt0-clause-lowest
in_lowest_terms-requires-else-self-lt0-clause-lowest c =
    let f : FitsSigned w128 c.self.inside.numerator = search rules in
    let b = simp to_z-of_z at c.unsigned_abs-denominator.ensures.value in
    let p = to_z_pos w128 c.self.inside.denominator c.self.invariant.1 in
    rw (p, b) (IsGcd-swap (unsigned_abs c.self.inside.numerator) c.self.inside.denominator 1 c.self.inside.lowest)
