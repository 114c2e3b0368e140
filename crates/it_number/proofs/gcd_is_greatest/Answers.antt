use Rattle.it_number.proofs.Divisors.{gcd_is}
use Rattle.it_number.proofs.gcd_is_greatest.Goals as goal

pub returns : goal.returns
returns c = gcd_is
