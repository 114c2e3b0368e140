use Rattle.it_elemental.proofs.IndexLemmas.{indexes_are_told}
use Rattle.it_elemental.proofs.laws.indexes_are_told.Goals as goal

pub returns : goal.returns
returns c = indexes_are_told
