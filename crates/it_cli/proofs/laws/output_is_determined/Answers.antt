use Rattle.it_cli.proofs.OutputLemmas.{one_output}
use Rattle.it_cli.proofs.laws.output_is_determined.Goals as goal

pub returns-clause-answer : goal.returns-clause-answer
returns-clause-answer c = c.answers_are_determined.ensures.one

pub returns-clause-ascends : goal.returns-clause-ascends
returns-clause-ascends c = c.answers_are_determined.ensures.ascends

pub returns-clause-output : goal.returns-clause-output
returns-clause-output c = one_output c.modes_are_determined.ensures
