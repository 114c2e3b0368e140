use Rattle.it_cli.proofs.StepLemmas as proof
use Rattle.it_cli.proofs.laws.never_out_of_steps.Goals as goal

pub returns : goal.returns
returns c = proof.never_out_of_steps c.never_out_of_steps.ensures
