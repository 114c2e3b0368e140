use Rattle.it_sharing.proofs.WithinLemmas as proof
use Rattle.it_sharing.proofs.laws.sharing_is_within.Goals as goal

pub returns : goal.returns
returns c = proof.sharing_is_within
