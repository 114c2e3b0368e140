use Rattle.std.proofs.Common.{◌≤◌, List, All, arith, length, subst, sym, ◌∙◌}
use Rattle.it_problems.specs.Problems.{ProblemView}
use Rattle.it_space.specs.Rows.{Terms, IsOver}
use Rattle.it_space.specs.Spaces.{size_of}
use Rattle.it_hull.proofs.ConstantLemmas.{few_constants}
use Rattle.it_spans.proofs.DropLemmas.{all-remove}
use Rattle.it_spans.proofs.drops.take_row.Goals as goal

pub problem_with-requires-clause-few_givens : goal.problem_with-requires-clause-few_givens
problem_with-requires-clause-few_givens c =
    let few = few_constants c.args.givens.now.space c.facts.ensures.space in
    subst (λ (q : ProblemView). length q.constraints ≤ 65535) (sym c.requires.givens) (omega (arith, few))

pub problem_with-requires-clause-rows : goal.problem_with-requires-clause-rows
problem_with-requires-clause-rows c =
    let over = IsOver (size_of c.args.givens.now.space) in
    subst (λ (rows : List Terms). All over rows) (sym (c.as_slice.ensures.value ∙ c.remove-row.ensures.items))
    (all-remove over c.args.rows.now.items c.args.drop.now.row c.requires.over)
