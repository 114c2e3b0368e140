use Rattle.it_rational.proofs.RationalLaws.{times_assoc}
use Rattle.it_fraction.proofs.laws.products_associate.Goals as goal

pub returns : goal.returns
returns c = times_assoc c.args.x c.args.y c.args.z
