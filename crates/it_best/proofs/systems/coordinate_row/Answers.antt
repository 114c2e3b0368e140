use Rattle.std.proofs.Common.{rules, FitsSigned, to_z-of_z, arith, ◌≡◌, ◌++◌, ◌+◌, ◌∙◌, sym, ap, subst, length}
use Rattle.std.proofs.lemmas.List.{length-map}
use Rattle.it_space.specs.Rows.{Terms, IsCanonical, coefficient, single_term}
use Rattle.it_space.specs.Spaces.{size_of}
use Rattle.it_elemental.specs.Generators.{Generator, generators}
use Rattle.it_best.specs.Phases.{coordinate_row, coordinate_terms}
use Rattle.it_best.proofs.SystemSteps.{few_equations, row_ascends, row_after_pushes}
use mir.Syntax.{w128}
use Rattle.it_number.specs.Limit.{IsWithin}
use Rattle.it_best.proofs.systems.coordinate_row.Goals as goal
use Rattle.it_best.proofs.systems.coordinate_row.Goals.{In_ok-push_some-2}

pub coordinate_terms-requires : goal.coordinate_terms-requires
coordinate_terms-requires c = omega (
  arith,
  c.size.ensures,
  ap length c.requires,
  length-map (generators c.args.sides.now.problem)
      (λ (g : Generator). g.row),
  few_equations c.args.sides.now.problem c.facts.ensures.problem,
)

row_is : (c : In_ok-push_some-2) → c.push_some-2.new.terms.items ≡ coordinate_row (size_of c.args.sides.now.problem.space)
    (generators c.args.sides.now.problem) c.args.sides.now.left c.args.sides.now.right c.args.coordinate
row_is c =
    let left_fits : FitsSigned w128 c.coefficient.result = search rules in
    let right_fits : FitsSigned w128 c.coefficient-2.result = search rules in
    row_after_pushes (size_of c.args.sides.now.problem.space) (generators c.args.sides.now.problem)
    c.args.sides.now.left c.args.sides.now.right c.args.coordinate
    c.in_ok-terms.terms.items c.push_some.new.terms.items c.push_some-2.new.terms.items _ _ _ _
    (c.in_ok-terms.ensures.same (generators c.args.sides.now.problem) c.requires
    ∙ ap (λ n. coordinate_terms (n + 1) (generators c.args.sides.now.problem) c.args.coordinate) c.size.ensures)
    c.left_equation.ensures.value (c.coefficient.ensures.value ∙ ap (λ (ts : Terms). coefficient ts c.args.coordinate) c.left.ensures)
    c.right_equation.ensures.value (c.coefficient-2.ensures.value ∙ ap (λ (ts : Terms). coefficient ts c.args.coordinate) c.right.ensures)
    (c.in_ok-push_some.ensures ∙ ap (λ x. c.in_ok-terms.terms.items ++ single_term c.left_equation.result x) (to_z-of_z left_fits))
    (c.in_ok-push_some-2.ensures ∙ ap (λ x. c.push_some.new.terms.items ++ single_term c.right_equation.result x) (to_z-of_z right_fits))

pub new-requires : goal.new-requires
new-requires c = subst IsCanonical (sym (row_is (goal.at.new-requires c).In_ok-push_some-2))
    (row_ascends (size_of c.args.sides.now.problem.space) (generators c.args.sides.now.problem) c.args.sides.now.left c.args.sides.now.right c.args.coordinate
    (c.in_ok-terms.ensures.within (generators c.args.sides.now.problem) c.requires)
    (subst IsWithin (c.coefficient.ensures.value ∙ ap (λ (ts : Terms). coefficient ts c.args.coordinate) c.left.ensures) c.coefficient.ensures.within)
    (subst IsWithin (c.coefficient-2.ensures.value ∙ ap (λ (ts : Terms). coefficient ts c.args.coordinate) c.right.ensures) c.coefficient-2.ensures.within))

pub returns : goal.returns
returns c = c.new.ensures ∙ row_is (goal.at.returns c).In_ok-push_some-2
