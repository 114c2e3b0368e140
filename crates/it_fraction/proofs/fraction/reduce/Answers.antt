use Rattle.std.proofs.Common.{◌≡◌, ap, ap₂, ◌∙◌, unsigned_abs, FitsSigned, to_z-of_z, rules}
use Rattle.std.specs.Int.{w128}
use Rattle.it_number.specs.Division.{int_quotient}
use Rattle.it_number.specs.Gcd.{gcd}
use Rattle.it_rational.specs.Rational.{quotient}
use Rattle.it_fraction.proofs.DivisorLemmas.{reduced-some, reduced-lowest, reduced-is}
use Rattle.it_fraction.proofs.fraction.reduce.Goals as goal
use Rattle.it_fraction.proofs.fraction.reduce.Goals.{After-common_divisor-shared, After-signed_quotient}

shared_is : (c : After-common_divisor-shared) → c.common_divisor-shared.result ≡ gcd (unsigned_abs c.args.num) c.args.den
shared_is c =
    let f : FitsSigned w128 c.args.num = c.ranges.num in
    c.common_divisor-shared.ensures.value ∙ ap (λ n. gcd n c.args.den) (simp to_z-of_z at c.unsigned_abs.ensures.value)

numerator_is : (c : After-signed_quotient) → c.signed_quotient.result ≡ int_quotient c.args.num c.common_divisor-shared.result
numerator_is c = let f : FitsSigned w128 c.args.num = c.ranges.num in simp to_z-of_z at c.signed_quotient.ensures

pub in_lowest_terms-requires-clause-some : goal.in_lowest_terms-requires-clause-some
in_lowest_terms-requires-clause-some c =
    let e = shared_is (goal.at.in_lowest_terms-requires-clause-some c).After-common_divisor-shared in
    rw c.quotient.ensures (reduced-some c.args.num c.args.den c.common_divisor-shared.result c.requires.den_some e)

pub in_lowest_terms-requires-clause-lowest : goal.in_lowest_terms-requires-clause-lowest
in_lowest_terms-requires-clause-lowest c =
    let g = goal.at.in_lowest_terms-requires-clause-lowest c in
    let f : FitsSigned w128 c.signed_quotient.result = search rules in
    simp to_z-of_z (rw (numerator_is g.After-signed_quotient, c.quotient.ensures)
    (reduced-lowest c.args.num c.args.den c.common_divisor-shared.result c.requires.den_some (shared_is g.After-common_divisor-shared)))

pub returns : goal.returns
returns c =
    let g = goal.at.returns c in
    let f : FitsSigned w128 c.signed_quotient.result = search rules in
    simp to_z-of_z at c.in_lowest_terms.ensures ∙ ap₂ quotient (numerator_is g.After-signed_quotient) c.quotient.ensures
    ∙ reduced-is c.args.num c.args.den c.common_divisor-shared.result c.requires.den_some (shared_is g.After-common_divisor-shared)
