use Rattle.it_cli.proofs.WrittenLemmas as proof
use Rattle.it_cli.proofs.laws.sharing_is_true.Goals as goal

pub returns : goal.returns
returns c = proof.sharing_is_true c.shown_answers_are_true.ensures c.shown_factors_are_true.ensures
    c.made_question_is_of_perfect_sharing.ensures c.sharing_is_within.ensures
