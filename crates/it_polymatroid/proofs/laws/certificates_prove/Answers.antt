use Rattle.it_polymatroid.proofs.Certified as proof
use Rattle.it_polymatroid.proofs.laws.certificates_prove.Goals as goal

pub returns : goal.returns
returns c = proof.certificates_prove
