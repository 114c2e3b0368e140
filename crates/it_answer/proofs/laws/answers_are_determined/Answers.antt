use Rattle.it_answer.proofs.UniqueLemmas.{a_yes_ascends, one_right_answer}
use Rattle.it_answer.proofs.laws.answers_are_determined.Goals as goal

pub returns-clause-one : goal.returns-clause-one
returns-clause-one c = one_right_answer

pub returns-clause-ascends : goal.returns-clause-ascends
returns-clause-ascends c = a_yes_ascends
