use Rattle.it_cli.proofs.WrittenLemmas as proof
use Rattle.it_cli.proofs.laws.answers_show.Goals as goal

pub returns : goal.returns
returns c = proof.answers_show
