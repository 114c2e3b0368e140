use Rattle.it_hull.proofs.ConeLemmas.{hull_is_projection, problems_are_cones}
use Rattle.it_hull.proofs.laws.hull_is_projection.Goals as goal

pub returns : goal.returns
returns c = record { cone = problems_are_cones; projection = hull_is_projection }
