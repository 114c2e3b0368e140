use Rattle.it_cli.proofs.WrittenLemmas as proof
use Rattle.it_cli.proofs.laws.copies_are_true.Goals as goal

pub returns : goal.returns
returns c = proof.copies_are_true c.shown_answers_are_true.ensures c.yes_by_copies.ensures c.copied_questions_are_within.ensures
