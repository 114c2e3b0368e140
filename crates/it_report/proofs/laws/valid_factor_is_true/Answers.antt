use Rattle.it_report.proofs.FactorTruth.{valid_factor_is_true, valid_factor_is_true_of_sharing}
use Rattle.it_report.proofs.laws.valid_factor_is_true.Goals as goal

pub returns-clause-claim : goal.returns-clause-claim
returns-clause-claim c = valid_factor_is_true

pub returns-clause-sharing : goal.returns-clause-sharing
returns-clause-sharing c = valid_factor_is_true_of_sharing
