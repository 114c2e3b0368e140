use Rattle.it_prove.proofs.ProofLemmas.{one_outcome}
use Rattle.it_prove.proofs.laws.one_outcome.Goals as goal

pub returns : goal.returns
returns c = one_outcome
