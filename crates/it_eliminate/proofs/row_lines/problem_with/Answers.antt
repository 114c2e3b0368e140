use Rattle.std.proofs.Common.{rules, ◌≡◌, subst, sym}
use Rattle.it_problems.specs.Problems.{IsProblem, ProblemView}
use Rattle.it_eliminate.specs.RowLines.{with_rows}
use Rattle.it_eliminate.proofs.RowLemmas.{problem_limits}
use Rattle.it_eliminate.proofs.row_lines.problem_with.Goals as goal

pub invariant_of-result : goal.invariant_of-result
invariant_of-result c =
    let made : ProblemView = record { space = c.space.result; constraints = c.push_rows.new.constraints.items } in
    let is : made ≡ with_rows c.args.givens.now c.args.rows.now = search rules in
    subst IsProblem (sym is) (problem_limits c.args.givens.now c.args.rows.now c.facts.ensures c.requires.few_givens c.requires.few_rows c.requires.rows)
