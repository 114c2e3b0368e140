use Rattle.it_hull.proofs.RateLemmas.{rates_meet, reduced_is_hull}
use Rattle.it_hull.proofs.laws.reduced_is_hull.Goals as goal

pub returns : goal.returns
returns c = record { hull = reduced_is_hull; met = rates_meet }
