use Rattle.it_report.proofs.OriginTruth.{valid_origins_are_true}
use Rattle.it_report.proofs.laws.valid_origins_are_true.Goals as goal

pub returns : goal.returns
returns c = valid_origins_are_true
