use Rattle.it_tell.proofs.LawLemmas.{told_answers_are_true}
use Rattle.it_tell.proofs.laws.told_answers_are_true.Goals as goal

pub returns : goal.returns
returns c = told_answers_are_true
