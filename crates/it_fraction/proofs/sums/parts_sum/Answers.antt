use Rattle.std.proofs.Common.{◌≡◌, ◌*◌, ◌/◌, FitsSigned, to_z-of_z, rules, ap, ap₂, ◌∙◌}
use Rattle.std.specs.Int.{w128}
use Rattle.it_number.specs.Division.{int_quotient}
use Rattle.it_number.specs.Gcd.{gcd}
use Rattle.it_number.specs.Limit.{IsWithin}
use Rattle.it_rational.specs.Rational.{quotient}
use Rattle.it_fraction.proofs.Results.{OkIff-err}
use Rattle.it_fraction.proofs.SumLemmas.{AreSteps, AreParts, steps-parts, steps-fit, fit-denominator, over-within}
use Rattle.it_fraction.proofs.sums.parts_sum.Goals as goal
use Rattle.it_fraction.proofs.sums.parts_sum.Goals.{After-common_divisor-rest, After-quotient, In_ok-denominator, After-signed_quotient}

steps : (c : After-common_divisor-rest) → AreSteps c.args.a c.args.b c.args.c c.args.d c.in_ok-left.left c.in_ok-right.right
    c.in_ok-total.total c.common_divisor-rest.result
steps c =
    let fa : FitsSigned w128 c.args.a = c.ranges.a in
    let fc : FitsSigned w128 c.args.c = c.ranges.c in
    let fl : FitsSigned w128 c.in_ok-left.left = search rules in
    let fr : FitsSigned w128 c.in_ok-right.right = search rules in
    let ft : FitsSigned w128 c.in_ok-total.total = search rules in
    let shared = c.common_divisor-shared.ensures.value in
    record {
      left_is = rw (← shared, ← c.quotient-left_factor.ensures) (simp to_z-of_z at c.in_ok-left.ensures.1);
      right_is = rw (← shared, ← c.quotient-right_factor.ensures) (simp to_z-of_z at c.in_ok-right.ensures.1);
      sum_is = simp to_z-of_z at c.in_ok-total.ensures.1;
      rest_is = rw (← shared) (c.common_divisor-rest.ensures.value ∙ ap (λ n. gcd n c.common_divisor-shared.result)
          (simp to_z-of_z at c.unsigned_abs.ensures.value));
    }

-- the denominator that is formed
formed_is : (c : After-quotient) → c.quotient-right_factor.result * c.quotient.result
    ≡ (c.args.b / gcd c.args.b c.args.d) * (c.args.d / c.common_divisor-rest.result)
formed_is c = ap₂ (λ m n. m * n) (c.quotient-right_factor.ensures ∙ ap (λ n. c.args.b / n) c.common_divisor-shared.ensures.value) c.quotient.ensures

total_within : (c : After-common_divisor-rest) → IsWithin c.in_ok-total.total
total_within c = rw c.in_ok-total.ensures.1 c.in_ok-total.ensures.0

numerator_is : (c : After-signed_quotient) → c.signed_quotient.result ≡ int_quotient c.in_ok-total.total c.common_divisor-rest.result
numerator_is c = let ft : FitsSigned w128 c.in_ok-total.total = search rules in simp to_z-of_z at c.signed_quotient.ensures

parts : (c : In_ok-denominator)
    → AreSteps c.args.a c.args.b c.args.c c.args.d c.in_ok-left.left c.in_ok-right.right c.in_ok-total.total c.common_divisor-rest.result
    → c.in_ok-denominator.denominator ≡ (c.args.b / gcd c.args.b c.args.d) * (c.args.d / c.common_divisor-rest.result)
    → AreParts c.args.a c.args.b c.args.c c.args.d (int_quotient c.in_ok-total.total c.common_divisor-rest.result) c.in_ok-denominator.denominator
parts c s e = steps-parts _ _ _ _ _ _ _ _ _ s e c.requires.b_some c.requires.d_some c.requires.left c.requires.right

pub returns-in_err-denominator : goal.returns-in_err-denominator
returns-in_err-denominator c =
    let g = goal.at.returns-in_err-denominator c in
    OkIff-err _ _ _ c.from_residual-in_err-denominator.ensures.0 (λ fit. c.in_err-denominator.ensures
    (rw (formed_is g.After-quotient) (fit-denominator _ _ _ _ _ _ _ _ (steps g.After-common_divisor-rest) fit)))

pub in_lowest_terms-requires-clause-numerator_within : goal.in_lowest_terms-requires-clause-numerator_within
in_lowest_terms-requires-clause-numerator_within c =
    let g = goal.at.in_lowest_terms-requires-clause-numerator_within c in
    let f : FitsSigned w128 c.signed_quotient.result = search rules in
    simp to_z-of_z (rw (numerator_is g.After-signed_quotient) (over-within c.in_ok-total.total c.common_divisor-rest.result
    (total_within g.After-common_divisor-rest)))

pub in_lowest_terms-requires-clause-some : goal.in_lowest_terms-requires-clause-some
in_lowest_terms-requires-clause-some c =
    let g = goal.at.in_lowest_terms-requires-clause-some c in
    (parts g.In_ok-denominator (steps g.After-common_divisor-rest) (c.in_ok-denominator.ensures.1 ∙ formed_is g.After-quotient)).some

pub in_lowest_terms-requires-clause-lowest : goal.in_lowest_terms-requires-clause-lowest
in_lowest_terms-requires-clause-lowest c =
    let g = goal.at.in_lowest_terms-requires-clause-lowest c in
    let f : FitsSigned w128 c.signed_quotient.result = search rules in
    simp to_z-of_z (rw (numerator_is g.After-signed_quotient) (parts g.In_ok-denominator (steps g.After-common_divisor-rest)
    (c.in_ok-denominator.ensures.1 ∙ formed_is g.After-quotient)).lowest)

pub returns : goal.returns
returns c =
    let g = goal.at.returns c in
    let f : FitsSigned w128 c.signed_quotient.result = search rules in
    let s = steps g.After-common_divisor-rest in
    let e = c.in_ok-denominator.ensures.1 ∙ formed_is g.After-quotient in (
      steps-fit _ _ _ _ _ _ _ _ _ s e (rw c.in_ok-left.ensures.1 c.in_ok-left.ensures.0) (rw c.in_ok-right.ensures.1 c.in_ok-right.ensures.0)
          (total_within g.After-common_divisor-rest) (rw c.in_ok-denominator.ensures.1 c.in_ok-denominator.ensures.0),
      (simp to_z-of_z at c.in_lowest_terms.ensures) ∙ ap (λ n. quotient n c.in_ok-denominator.denominator) (numerator_is g.After-signed_quotient)
          ∙ (parts g.In_ok-denominator s e).sum_is,
    )
