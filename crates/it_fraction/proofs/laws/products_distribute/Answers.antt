use Rattle.it_rational.proofs.RationalLaws.{times-plus}
use Rattle.it_fraction.proofs.laws.products_distribute.Goals as goal

pub returns : goal.returns
returns c = times-plus c.args.x c.args.y c.args.z
