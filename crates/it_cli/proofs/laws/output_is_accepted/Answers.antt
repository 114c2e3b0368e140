use Rattle.it_cli.proofs.AcceptedOutput as proof
use Rattle.it_cli.proofs.laws.output_is_accepted.Goals as goal

pub returns : goal.returns
returns c = proof.output_is_accepted c.answers_read_back.ensures c.origins_read_back.ensures
