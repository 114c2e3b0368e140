use Rattle.it_sharing.proofs.Perfection.{made_question_is_of_perfect_sharing}
use Rattle.it_sharing.proofs.laws.made_question_is_of_perfect_sharing.Goals as goal

pub returns : goal.returns
returns c = made_question_is_of_perfect_sharing
