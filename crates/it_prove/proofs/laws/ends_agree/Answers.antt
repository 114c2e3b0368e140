use Rattle.it_prove.proofs.RightLemmas.{ends_agree}
use Rattle.it_prove.proofs.laws.ends_agree.Goals as goal

pub returns : goal.returns
returns c = ends_agree
