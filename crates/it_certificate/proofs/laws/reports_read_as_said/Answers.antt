use Rattle.it_certificate.proofs.RowsComputed.{kinds_read_as_said, proofs_read_as_said, points_read_as_said, causes_read_as_said, regions_read_as_said, containments_read_as_said}
use Rattle.it_certificate.proofs.laws.reports_read_as_said.Goals as goal

pub returns-clause-kinds : goal.returns-clause-kinds
returns-clause-kinds c = kinds_read_as_said

pub returns-clause-proofs : goal.returns-clause-proofs
returns-clause-proofs c = proofs_read_as_said

pub returns-clause-points : goal.returns-clause-points
returns-clause-points c = points_read_as_said

pub returns-clause-causes : goal.returns-clause-causes
returns-clause-causes c = causes_read_as_said

pub returns-clause-regions : goal.returns-clause-regions
returns-clause-regions c = regions_read_as_said

pub returns-clause-containments : goal.returns-clause-containments
returns-clause-containments c = containments_read_as_said
