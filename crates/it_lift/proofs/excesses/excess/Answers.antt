use Rattle.std.proofs.Common.{rules, ◌≡◌, ◌*ℤ◌, ℤ, FitsSigned, to_z-of_z, sym, ap, subst, ◌∙◌}
use Rattle.it_number.specs.Limit.{IsWithin}
use Rattle.it_space.specs.Rows.{coefficient, value, one_at}
use Rattle.it_space.proofs.TermLemmas.{value-one_at}
use Rattle.it_elemental.specs.Generators.{generators_of}
use Rattle.it_lift.proofs.FallSteps.{excess_is}
use Rattle.it_lift.proofs.excesses.excess.Goals as goal
use mir.Syntax.{w128}

pub returns-in_err-whole : goal.returns-in_err-whole
returns-in_err-whole c =
    let f : FitsSigned w128 c.coefficient.result = search rules in
    let g : FitsSigned w128 c.args.collapsed.now.scale = search rules in
    let wide = simp to_z-of_z at c.in_err-whole.ensures in
    let at : c.coefficient.result ≡ value c.args.target.now (one_at c.args.set) = c.coefficient.ensures.value
    ∙ ap (coefficient c.args.target.now) c.number.ensures ∙ sym (value-one_at c.args.target.now c.args.set) in
    let stops : ¬ (IsWithin (c.args.collapsed.now.scale *ℤ value c.args.target.now (one_at c.args.set))) = subst
    (λ (x : ℤ). ¬ (IsWithin (c.args.collapsed.now.scale *ℤ x))) at wide in
    search (rules, stops)

pub returns : goal.returns
returns c =
    let f : FitsSigned w128 c.coefficient.result = search rules in
    let g : FitsSigned w128 c.args.collapsed.now.scale = search rules in
    let h : FitsSigned w128 c.in_ok-whole.whole = search rules in
    let at : c.coefficient.result ≡ value c.args.target.now (one_at c.args.set) = c.coefficient.ensures.value
    ∙ ap (coefficient c.args.target.now) c.number.ensures ∙ sym (value-one_at c.args.target.now c.args.set) in
    let first = simp to_z-of_z at c.in_ok-whole.ensures in
    let rest = simp to_z-of_z at c.left_of.ensures in
    let is : c.in_ok-whole.whole ≡ c.args.collapsed.now.scale *ℤ value c.args.target.now (one_at c.args.set) = first.1
    ∙ ap (λ x. c.args.collapsed.now.scale *ℤ x) at in
    excess_is c.left_of.result c.in_ok-whole.whole (c.args.collapsed.now.scale *ℤ value c.args.target.now (one_at c.args.set))
    c.as_slice.result.now c.args.collapsed.now.weights.items
    (λ i. (generators_of c.args.problem.now).form i (one_at c.args.set)) is
    (subst (λ (x : ℤ). IsWithin (c.args.collapsed.now.scale *ℤ x)) at first.0) c.as_slice.ensures.value rest
