use Rattle.it_outer.proofs.BoundLemmas.{search_is_right}
use Rattle.it_outer.proofs.EndLemmas.{one_search_end}
use Rattle.it_outer.proofs.laws.searches_are_determined.Goals as goal

pub returns : goal.returns
returns c = record { right = search_is_right; one = one_search_end }
