use Rattle.std.proofs.Common.{◌≡◌, ◌*◌, ◌^◌, ◌<◌, ◌∙◌, ap, pos, unsigned_abs, FitsSigned, to_z-of_z}
use Rattle.std.proofs.lemmas.Int.{to_z_pos}
use Rattle.std.specs.Int.{w128}
use Rattle.it_number.specs.Gcd.{lcm}
use Rattle.it_fraction.proofs.DivisorLemmas.{lcm-formed}
use Rattle.it_fraction.proofs.Results.{OkIff-err}
use Rattle.it_fraction.proofs.divisors.lcm.Goals as goal
use Rattle.it_fraction.proofs.divisors.lcm.Goals.{After-quotient}

formed_is : (c : After-quotient) → c.unsigned_abs-left.result * c.quotient.result ≡ lcm (unsigned_abs c.args.a) (unsigned_abs c.args.b)
formed_is c =
    let fa : FitsSigned w128 c.args.a = c.ranges.a in
    let fb : FitsSigned w128 c.args.b = c.ranges.b in
    lcm-formed _ _ _ _ _ _ (simp to_z-of_z at c.unsigned_abs-left.ensures.value)
    (simp to_z-of_z at c.unsigned_abs-right.ensures.value) c.common_divisor.ensures.value c.quotient.ensures

pub returns-in_err-multiple : goal.returns-in_err-multiple
returns-in_err-multiple c = OkIff-err _ _ _ c.from_residual.ensures.0 (λ fit. c.in_err-multiple.ensures
    (rw (formed_is (goal.at.returns-in_err-multiple c).After-quotient) fit))

pub returns : goal.returns
returns c =
    let e = formed_is (goal.at.returns c).After-quotient in
    let small : c.in_ok-multiple.multiple < 2 ^ 127 = rw c.in_ok-multiple.ensures.1 c.in_ok-multiple.ensures.0 in
    (rw (← e) c.in_ok-multiple.ensures.0, to_z_pos w128 c.in_ok-multiple.multiple small ∙ ap pos (c.in_ok-multiple.ensures.1 ∙ e))
