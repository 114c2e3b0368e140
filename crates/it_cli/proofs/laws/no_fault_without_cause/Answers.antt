use Rattle.it_cli.proofs.LawLemmas as proof
use Rattle.it_cli.proofs.laws.no_fault_without_cause.Goals as goal

pub returns : goal.returns
returns c = proof.sure_ends
