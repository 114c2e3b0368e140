use Rattle.it_certificate.proofs.RowsComputed.{lines_written_as_said}
use Rattle.it_certificate.proofs.laws.lines_are_written_as_said.Goals as goal

pub returns : goal.returns
returns c = lines_written_as_said
