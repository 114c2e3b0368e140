use Rattle.it_rates.proofs.BoundLemmas.{hull_is_exact}
use Rattle.it_rates.proofs.laws.hull_is_exact.Goals as goal

pub returns : goal.returns
returns c = hull_is_exact
