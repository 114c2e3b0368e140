use Rattle.it_rational.proofs.Total.{rational_total}
use Rattle.it_rational.proofs.total_order.Goals as goal

pub returns : goal.returns
returns c = rational_total
