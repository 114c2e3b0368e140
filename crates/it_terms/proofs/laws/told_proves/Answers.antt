use Rattle.it_terms.proofs.ToldProofs.{told_proves}
use Rattle.it_terms.proofs.laws.told_proves.Goals as goal

pub returns : goal.returns
returns c = told_proves
