use Rattle.std.proofs.Common.{◌≡◌, ◌*◌, ◌*ℤ◌, ◌/◌, FitsSigned, to_z-of_z, rules, ap, ap₂, ◌∙◌}
use Rattle.std.specs.Int.{w128}
use Rattle.it_number.specs.Division.{int_quotient}
use Rattle.it_number.specs.Gcd.{gcd}
use Rattle.it_rational.specs.Rational.{quotient}
use Rattle.it_fraction.specs.Fits.{IsNarrow}
use Rattle.it_fraction.proofs.Results.{OkIff-err}
use Rattle.it_fraction.proofs.ProductLemmas.{product_numerator, product_denominator, product-some, product-lowest, product-is, product-narrow}
use Rattle.it_fraction.proofs.products.parts_product.Goals as goal
use Rattle.it_fraction.proofs.products.parts_product.Goals.{After-signed_quotient-right, In_ok-numerator, After-quotient-2}

product_is : (c : After-signed_quotient-right) → c.signed_quotient-left.result *ℤ c.signed_quotient-right.result
    ≡ product_numerator c.args.a c.args.b c.args.c c.args.d
product_is c =
    let fa : FitsSigned w128 c.args.a = c.ranges.a in
    let fc : FitsSigned w128 c.args.c = c.ranges.c in
    ap₂ (λ x y. x *ℤ y)
    (simp to_z-of_z at c.signed_quotient-left.ensures
    ∙ ap (int_quotient c.args.a) (c.common_divisor-left_shared.ensures.value
    ∙ ap (λ n. gcd n c.args.d) (simp to_z-of_z at c.unsigned_abs.ensures.value)))
    (simp to_z-of_z at c.signed_quotient-right.ensures
    ∙ ap (int_quotient c.args.c) (c.common_divisor-right_shared.ensures.value
    ∙ ap (λ n. gcd n c.args.b) (simp to_z-of_z at c.unsigned_abs-2.ensures.value)))

numerator_is : (c : In_ok-numerator) → c.in_ok-numerator.numerator ≡ c.signed_quotient-left.result *ℤ c.signed_quotient-right.result
numerator_is c =
    let f : FitsSigned w128 c.signed_quotient-left.result = search rules in
    let g : FitsSigned w128 c.signed_quotient-right.result = search rules in
    simp to_z-of_z at c.in_ok-numerator.ensures.1

rest_is : (c : After-quotient-2) → c.quotient.result * c.quotient-2.result ≡ product_denominator c.args.a c.args.b c.args.c c.args.d
rest_is c =
    let fa : FitsSigned w128 c.args.a = c.ranges.a in
    let fc : FitsSigned w128 c.args.c = c.ranges.c in
    ap₂ (λ m n. m * n)
    (c.quotient.ensures ∙ ap (λ n. c.args.b / n) (c.common_divisor-right_shared.ensures.value
    ∙ ap (λ n. gcd n c.args.b) (simp to_z-of_z at c.unsigned_abs-2.ensures.value)))
    (c.quotient-2.ensures ∙ ap (λ n. c.args.d / n) (c.common_divisor-left_shared.ensures.value
    ∙ ap (λ n. gcd n c.args.d) (simp to_z-of_z at c.unsigned_abs.ensures.value)))

pub returns-in_err-numerator : goal.returns-in_err-numerator
returns-in_err-numerator c =
    let f : FitsSigned w128 c.signed_quotient-left.result = search rules in
    let g : FitsSigned w128 c.signed_quotient-right.result = search rules in
    let n = product-narrow c.args.a c.args.b c.args.c c.args.d c.requires.b_some c.requires.d_some c.requires.left c.requires.right in
    OkIff-err _ _ _ c.from_residual.ensures.0
    (λ (fit : IsNarrow (quotient (c.args.a *ℤ c.args.c) (c.args.b * c.args.d))). c.in_err-numerator.ensures
    (simp to_z-of_z (rw (product_is (goal.at.returns-in_err-numerator c).After-signed_quotient-right) (n.0 fit).0)))

pub returns-in_err-denominator : goal.returns-in_err-denominator
returns-in_err-denominator c =
    let n = product-narrow c.args.a c.args.b c.args.c c.args.d c.requires.b_some c.requires.d_some c.requires.left c.requires.right in
    OkIff-err _ _ _ c.from_residual-in_err-denominator.ensures.0
    (λ fit. c.in_err-denominator.ensures (rw (rest_is (goal.at.returns-in_err-denominator c).After-quotient-2) (n.0 fit).1))

pub in_lowest_terms-requires-clause-some : goal.in_lowest_terms-requires-clause-some
in_lowest_terms-requires-clause-some c =
    rw (c.in_ok-denominator.ensures.1, rest_is (goal.at.in_lowest_terms-requires-clause-some c).After-quotient-2)
    (product-some c.args.a c.args.b c.args.c c.args.d c.requires.b_some c.requires.d_some c.requires.left c.requires.right)

pub in_lowest_terms-requires-clause-lowest : goal.in_lowest_terms-requires-clause-lowest
in_lowest_terms-requires-clause-lowest c =
    let g = goal.at.in_lowest_terms-requires-clause-lowest c in
    let f : FitsSigned w128 c.in_ok-numerator.numerator = search rules in
    simp to_z-of_z (rw (numerator_is g.In_ok-numerator, product_is g.After-signed_quotient-right, c.in_ok-denominator.ensures.1, rest_is g.After-quotient-2)
    (product-lowest c.args.a c.args.b c.args.c c.args.d c.requires.b_some c.requires.d_some c.requires.left c.requires.right))

pub returns : goal.returns
returns c =
    let g = goal.at.returns c in
    let f : FitsSigned w128 c.in_ok-numerator.numerator = search rules in
    let numerator = numerator_is g.In_ok-numerator ∙ product_is g.After-signed_quotient-right in
    let denominator = c.in_ok-denominator.ensures.1 ∙ rest_is g.After-quotient-2 in
    let n = product-narrow c.args.a c.args.b c.args.c c.args.d c.requires.b_some c.requires.d_some c.requires.left c.requires.right in (
      n.1 (
        rw (← numerator, c.in_ok-numerator.ensures.1) c.in_ok-numerator.ensures.0,
        rw
            (← denominator, c.in_ok-denominator.ensures.1) c.in_ok-denominator.ensures.0,
      ),
      (simp to_z-of_z at c.in_lowest_terms.ensures) ∙ ap₂ quotient numerator denominator
          ∙ product-is c.args.a c.args.b c.args.c c.args.d c.requires.b_some c.requires.d_some c.requires.left c.requires.right,
    )
