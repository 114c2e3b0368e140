use Rattle.it_rational.proofs.Order.{times-inverse}
use Rattle.it_rational.proofs.inverses.Goals as goal

pub returns : goal.returns
returns c = times-inverse
