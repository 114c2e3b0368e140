use Rattle.it_cli.proofs.WrittenLemmas as proof
use Rattle.it_cli.proofs.laws.answers_are_true.Goals as goal

pub returns : goal.returns
returns c = proof.answers_are_true c.shown_answers_are_true.ensures
