use Rattle.it_tableau.proofs.GatherSteps.{column_is_gathered}
use Rattle.it_tableau.proofs.gathering.gather.Goals as goal

pub loop-j-preserved : goal.loop-j-preserved
loop-j-preserved c = column_is_gathered c.args.coordinates.now c.args.columns.now c.args.target.now c.loop-j.j c.loop-j.lists.items
    c.put_column.new.lists.items c.in_ok-put_column.ensures c.loop-j.invariant
