use Rattle.it_question.proofs.FileLemmas.{file_is_one, file_fault_is_one, file_or_fault}
use Rattle.it_question.proofs.laws.file_is_one.Goals as goal

pub returns : goal.returns
returns c = record { one = file_is_one; fault = file_fault_is_one; either = file_or_fault }
