use Rattle.it_cli.proofs.WrittenLemmas as proof
use Rattle.it_cli.proofs.laws.bounds_are_true.Goals as goal

pub returns : goal.returns
returns c = proof.bounds_are_true c.shown_bounds_are_true.ensures
