use Rattle.std.proofs.Common.{rules, FitsSigned, to_z-of_z, ap, subst, ◌*ℤ◌, ◌∙◌, ℤ}
use Rattle.it_number.specs.Limit.{IsWithin}
use Rattle.it_ratio.proofs.SideSteps.{number_ok}
use Rattle.it_ratio.proofs.sides.side_number.Goals as goal
use mir.Syntax.{w128}

pub returns : goal.returns
returns c =
    let num : FitsSigned w128 c.args.num.now = search rules in
    let den : FitsSigned w128 c.args.den.now = search rules in
    let left : FitsSigned w128 c.coefficient.result = search rules in
    let right : FitsSigned w128 c.coefficient-2.result = search rules in
    let above : FitsSigned w128 c.in_ok-above.above = search rules in
    let below : FitsSigned w128 c.in_ok-below.below = search rules in
    let one = simp (to_z-of_z num, to_z-of_z left) at c.in_ok-above.ensures in
    let two = simp (to_z-of_z den, to_z-of_z right) at c.in_ok-below.ensures in
    let three = simp (to_z-of_z above, to_z-of_z below) at c.difference.ensures in
    number_ok c.difference.result c.args.num.now c.args.den.now c.args.left.now c.args.right.now c.args.at c.in_ok-above.above c.in_ok-below.below
    (subst (λ (x : ℤ). IsWithin (c.args.num.now *ℤ x)) c.coefficient.ensures.value one.0) (one.1 ∙ ap (λ x. c.args.num.now *ℤ x) c.coefficient.ensures.value)
    (subst (λ (x : ℤ). IsWithin (c.args.den.now *ℤ x)) c.coefficient-2.ensures.value two.0)
    (two.1 ∙ ap (λ x. c.args.den.now *ℤ x) c.coefficient-2.ensures.value) three
