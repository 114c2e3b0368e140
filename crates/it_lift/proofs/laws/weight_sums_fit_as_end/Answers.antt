use Rattle.it_lift.proofs.Directions.{weight_sums_fit_as_end}
use Rattle.it_lift.proofs.laws.weight_sums_fit_as_end.Goals as goal

pub returns : goal.returns
returns c = weight_sums_fit_as_end
