use Rattle.it_question.proofs.FileLemmas.{file_has_one}
use Rattle.it_question.proofs.laws.file_has_one.Goals as goal

pub returns : goal.returns
returns c = file_has_one
