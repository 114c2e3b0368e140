use Rattle.it_question.proofs.FileLemmas.{question_stands_alone}
use Rattle.it_question.proofs.laws.questions_stand_alone.Goals as goal

pub returns : goal.returns
returns c = question_stands_alone
