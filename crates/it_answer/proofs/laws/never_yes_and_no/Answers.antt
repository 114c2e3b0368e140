use Rattle.it_answer.proofs.TruthLemmas as proof
use Rattle.it_answer.proofs.laws.never_yes_and_no.Goals as goal

pub returns : goal.returns
returns c = proof.never_yes_and_no
