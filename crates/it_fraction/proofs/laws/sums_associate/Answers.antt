use Rattle.it_rational.proofs.RationalLaws.{plus_assoc}
use Rattle.it_fraction.proofs.laws.sums_associate.Goals as goal

pub returns : goal.returns
returns c = plus_assoc c.args.x c.args.y c.args.z
