use Rattle.it_answer.proofs.TruthLemmas as proof
use Rattle.it_answer.proofs.laws.shown_answers_are_true.Goals as goal

pub returns : goal.returns
returns c = proof.what_is_shown_is_true
