use Rattle.it_tableau.proofs.GatherSteps.{coordinate_is_absent}
use Rattle.it_tableau.proofs.gathering.place_of.Goals as goal

pub returns-in-Err-clause-none : goal.returns-in-Err-clause-none
returns-in-Err-clause-none c = coordinate_is_absent c.args.coordinates.now c.args.coordinate c.in-Err.field-0 c.requires c.in-Err.ensures.position
