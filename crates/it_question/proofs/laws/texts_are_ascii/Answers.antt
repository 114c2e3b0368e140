use Rattle.it_question.proofs.AsciiLemmas.{texts_are_ascii}
use Rattle.it_question.proofs.laws.texts_are_ascii.Goals as goal

pub returns : goal.returns
returns c = texts_are_ascii
