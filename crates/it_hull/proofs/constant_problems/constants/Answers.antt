use Rattle.std.proofs.Common.{rules, ◌≡◌, ◌∷◌, [], ◌++◌, List, ap, subst, sym}
use Rattle.it_problems.specs.declared.problems.Constraint.{Constraint}
use Rattle.it_problems.specs.Problems.{IsProblem, ProblemView}
use Rattle.it_hull.specs.Constants.{constant_lines}
use Rattle.it_hull.proofs.ConstantLemmas.{constants_are_problem, line_more, lines_done}
use Rattle.it_hull.proofs.constant_problems.constants.Goals as goal

pub loop-variable-preserved : goal.loop-variable-preserved
loop-variable-preserved c =
    let pushed : c.push.new.self.items ≡ c.loop-variable.constraints.items ++ c.in_ok-line.line ∷ [] = search rules in
    line_more c.loop-variable.variable c.args.space.variables c.loop-variable.constraints.items c.push.new.self.items
    (constant_lines 0 c.args.space.variables) c.in_ok-line.line c.loop-variable-test.true pushed c.in_ok-line.ensures
    c.loop-variable.invariant

pub invariant_of-result : goal.invariant_of-result
invariant_of-result c =
    let made : ProblemView = record { space = c.args.space; constraints = c.loop-variable.constraints.items } in
    let are : made.constraints ≡ constant_lines 0 c.args.space.variables =
    lines_done c.loop-variable.variable c.args.space.variables c.loop-variable.constraints.items
    (constant_lines 0 c.args.space.variables) c.loop-variable-test.false c.loop-variable.invariant in
    subst (λ (cs : List Constraint). IsProblem (record { space = c.args.space; constraints = cs })) (sym are) (constants_are_problem c.args.space c.requires)

pub returns : goal.returns
returns c =
    let are : c.loop-variable.constraints.items ≡ constant_lines 0 c.args.space.variables =
    lines_done c.loop-variable.variable c.args.space.variables c.loop-variable.constraints.items
    (constant_lines 0 c.args.space.variables) c.loop-variable-test.false c.loop-variable.invariant in
    ap (λ (cs : List Constraint). let q : ProblemView = record { space = c.args.space; constraints = cs } in q) are
