use Rattle.it_elemental.proofs.IndexLemmas.{inequalities_are_listed_once}
use Rattle.it_elemental.proofs.laws.inequalities_are_listed_once.Goals as goal

pub returns : goal.returns
returns c = inequalities_are_listed_once
