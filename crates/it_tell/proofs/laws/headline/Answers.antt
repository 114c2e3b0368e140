use Rattle.it_tell.proofs.LawLemmas as proof
use Rattle.it_tell.proofs.laws.headline.Goals as goal

pub returns : goal.returns
returns c = proof.headline
