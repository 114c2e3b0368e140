use Rattle.it_factor.proofs.TruthLemmas as proof
use Rattle.it_factor.proofs.laws.shown_factors_are_true.Goals as goal

pub returns : goal.returns
returns c = proof.what_is_shown_is_true
