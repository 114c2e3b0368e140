use Rattle.it_report.proofs.BoundsTruth.{valid_is_true_of_bounds}
use Rattle.it_report.proofs.SourceTruth.{valid_is_true_by_copies, valid_is_true_of_sharing}
use Rattle.it_report.proofs.TruthLemmas.{valid_is_true}
use Rattle.it_report.proofs.laws.valid_is_true.Goals as goal

pub returns-clause-claim : goal.returns-clause-claim
returns-clause-claim c = valid_is_true

pub returns-clause-copies : goal.returns-clause-copies
returns-clause-copies c = valid_is_true_by_copies

pub returns-clause-sharing : goal.returns-clause-sharing
returns-clause-sharing c = valid_is_true_of_sharing

pub returns-clause-bounds : goal.returns-clause-bounds
returns-clause-bounds c = valid_is_true_of_bounds
