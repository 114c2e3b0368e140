use Rattle.it_report.proofs.TruthLemmas.{valid_code_is_true}
use Rattle.it_report.proofs.laws.valid_code_is_true.Goals as goal

pub returns : goal.returns
returns c = valid_code_is_true
