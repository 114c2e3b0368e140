use Rattle.it_copy.proofs.WithinLemmas as proof
use Rattle.it_copy.proofs.laws.copied_questions_are_within.Goals as goal

pub returns : goal.returns
returns c = proof.copied_questions_are_within
