use Rattle.it_prove.proofs.ColumnSteps.{target_so}
use Rattle.it_prove.proofs.proving.collapse_rows.Goals as goal

pub returns-clause-target : goal.returns-clause-target
returns-clause-target c = target_so c.args.problem.now c.args.closed.now.dependences c.in_ok-target.target c.args.target.now
    c.requires.closed.space c.requires.closed.list c.in_ok-target.ensures.row c.in_ok-target.ensures.coordinates
