use Rattle.it_number.proofs.Divisors.{lcm_is}
use Rattle.it_number.proofs.lcm_is_least.Goals as goal

pub returns : goal.returns
returns c = lcm_is
