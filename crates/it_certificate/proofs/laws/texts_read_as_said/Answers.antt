use Rattle.it_certificate.proofs.RowsComputed.{numbers_read_as_said, texts_read_as_said}
use Rattle.it_certificate.proofs.laws.texts_read_as_said.Goals as goal

pub returns-clause-numbers : goal.returns-clause-numbers
returns-clause-numbers c = numbers_read_as_said

pub returns-clause-texts : goal.returns-clause-texts
returns-clause-texts c = texts_read_as_said
