use Rattle.it_region.proofs.RegionLemmas.{pulled_point_is_in, obligations_contain}
use Rattle.it_region.proofs.laws.obligations_contain.Goals as goal

pub returns-clause-point : goal.returns-clause-point
returns-clause-point c = pulled_point_is_in

pub returns-clause-contain : goal.returns-clause-contain
returns-clause-contain c = obligations_contain
