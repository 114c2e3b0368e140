use Rattle.it_cli.proofs.CountLemmas as proof
use Rattle.it_cli.proofs.laws.counts_add_up.Goals as goal

pub returns : goal.returns
returns c = proof.counts_add_up c.generated_is_file.ensures c.file_is_one.ensures.one
