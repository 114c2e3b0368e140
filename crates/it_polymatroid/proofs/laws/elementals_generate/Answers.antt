use Rattle.it_polymatroid.proofs.Generate as proof
use Rattle.it_polymatroid.proofs.laws.elementals_generate.Goals as goal

pub returns : goal.returns
returns c = proof.elementals_generate
