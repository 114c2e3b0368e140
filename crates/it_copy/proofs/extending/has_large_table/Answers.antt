use Rattle.it_copy.proofs.SizeLemmas.{any_fits, size_told}
use Rattle.it_copy.proofs.extending.has_large_table.Goals as goal

pub returns-then-limits : goal.returns-then-limits
returns-then-limits c = any_fits c.args.limits c.args.question.now.body c.if-limits.true

pub returns : goal.returns
returns c =
    size_told c.args.limits c.if-limits.false c.args.question.now.body c.in_ok-problem.problem c.in_ok-problem.ensures.poses c.in_ok-large.large
    c.in_ok-large.ensures
