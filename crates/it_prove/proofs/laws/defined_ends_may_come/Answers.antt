use Rattle.it_prove.proofs.ProofLemmas.{defined_ends_may_come}
use Rattle.it_prove.proofs.laws.defined_ends_may_come.Goals as goal

pub returns : goal.returns
returns c = defined_ends_may_come
