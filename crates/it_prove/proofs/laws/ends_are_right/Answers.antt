use Rattle.it_prove.proofs.RightLemmas.{ends_are_right}
use Rattle.it_prove.proofs.laws.ends_are_right.Goals as goal

pub returns : goal.returns
returns c = ends_are_right
