use Rattle.std.proofs.Common.{FitsSigned, to_z-of_z}
use Rattle.it_closure.proofs.Placing.{put_found}
use Rattle.it_closure.proofs.row_places.put.Goals as goal
use mir.Syntax.{w128}

pub returns-clause-put : goal.returns-clause-put
returns-clause-put c =
    let f : FitsSigned w128 c.args.amount = c.ranges.amount in
    let added = simp to_z-of_z at c.add.ensures.added in
    put_found c.add.result c.args.sums.now c.add.new.self c.args.place c.args.amount added
