use Rattle.std.proofs.Common.{◌≡◌, rules, ℤ, FitsSigned, to_z, of_z, to_z-of_z, ap, ap₂, sym, ◌∙◌, Some}
use Rattle.it_check.specs.declared.verdicts.Verdict.TheVariants.{Mismatch}
use Rattle.it_check.proofs.YesSteps.{left_wide, sides_agree, sides_differ}
use Rattle.it_check.proofs.yes.of_coordinate.Goals as goal
use mir.Syntax.{w128}

-- numbers that fit are one where their bits are
equal_from_bits : (x y : ℤ) → FitsSigned w128 x → FitsSigned w128 y → of_z w128 x ≡ of_z w128 y → x ≡ y
equal_from_bits x y f g e = sym (to_z-of_z f) ∙ ap (to_z w128) e ∙ to_z-of_z g

pub returns-in_default : goal.returns-in_default
returns-in_default c = left_wide c.args.certificate.now.scale c.args.target.now c.args.coordinate c.left_number.result c.args.right c.left_number.ensures
    c.in_default.field-0 c.in_default.is

pub returns-then-left-right : goal.returns-then-left-right
returns-then-left-right c =
    let left_fits : FitsSigned w128 c.in-Ok.left = search rules in
    let right_fits : FitsSigned w128 c.in-Some.right = search rules in
    sides_agree c.args.certificate.now.scale c.args.target.now c.args.coordinate c.left_number.result c.args.right c.left_number.ensures
    c.in-Ok.left c.in-Some.right c.in-Ok.is c.in-Some.is (equal_from_bits c.in-Ok.left c.in-Some.right left_fits right_fits c.if-left-right.true)

pub returns : goal.returns
returns c =
    let left_fits : FitsSigned w128 c.in-Ok.left = search rules in
    let right_fits : FitsSigned w128 c.in-Some.right = search rules in
    ap₂ (λ x y. Some (Mismatch c.args.coordinate x y)) (to_z-of_z left_fits) (to_z-of_z right_fits)
    ∙ sides_differ c.args.certificate.now.scale c.args.target.now c.args.coordinate c.left_number.result c.args.right c.left_number.ensures
    c.in-Ok.left c.in-Some.right c.in-Ok.is c.in-Some.is (λ e. c.if-left-right.false (ap (of_z w128) e))
