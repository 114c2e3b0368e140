use Rattle.it_cli.proofs.WrittenLemmas as proof
use Rattle.it_cli.proofs.laws.factors_are_true.Goals as goal

pub returns : goal.returns
returns c = proof.factors_are_true c.shown_factors_are_true.ensures c.copied_questions_are_within.ensures
