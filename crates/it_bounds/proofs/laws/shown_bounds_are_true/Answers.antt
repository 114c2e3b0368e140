use Rattle.it_bounds.proofs.TruthLemmas.{what_is_shown_is_true}
use Rattle.it_bounds.proofs.laws.shown_bounds_are_true.Goals as goal

pub returns : goal.returns
returns c = what_is_shown_is_true
