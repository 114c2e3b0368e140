use Rattle.it_elemental.specs.Generators.{generators, generator_at}
use Rattle.it_prove.specs.Closed.{collapsed_row}
use Rattle.it_prove.proofs.ColumnSteps.{same_after_push}
use Rattle.it_prove.proofs.columns.push_columns.Goals as goal

pub returns-clause-added : goal.returns-clause-added
returns-clause-added c = same_after_push c.args.columns.now.items c.push_row.new.columns.items c.kind_at.result
    (generator_at (generators c.args.problem.now) c.args.index).kind c.in_ok-row.row
    (collapsed_row c.args.problem.now.space.variables c.args.dependences.now.list
    (generator_at (generators c.args.problem.now) c.args.index).row) c.in_ok-push_row.ensures c.kind_at.ensures c.in_ok-row.ensures.same
