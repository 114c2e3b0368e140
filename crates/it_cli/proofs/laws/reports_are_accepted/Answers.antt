use Rattle.it_cli.proofs.AcceptedOrigins as proof
use Rattle.it_cli.proofs.laws.reports_are_accepted.Goals as goal

pub returns : goal.returns
returns c = proof.reports_are_accepted c.answers_read_back.ensures c.origins_read_back.ensures
