use Rattle.it_answer.proofs.StartLemmas as proof
use Rattle.it_answer.proofs.laws.no_step_is_zero.Goals as goal

pub returns : goal.returns
returns c = proof.no_step_is_zero
