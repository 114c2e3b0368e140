use Rattle.it_prove.proofs.ProofLemmas.{never_out_of_steps}
use Rattle.it_prove.proofs.laws.never_out_of_steps.Goals as goal

pub returns : goal.returns
returns c = never_out_of_steps
