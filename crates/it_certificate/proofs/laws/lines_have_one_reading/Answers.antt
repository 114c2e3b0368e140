use Rattle.it_certificate.proofs.OneLemmas.{one_reading}
use Rattle.it_certificate.proofs.laws.lines_have_one_reading.Goals as goal

pub returns : goal.returns
returns c = one_reading
