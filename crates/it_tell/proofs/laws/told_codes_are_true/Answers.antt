use Rattle.it_tell.proofs.LawLemmas.{told_codes_are_true}
use Rattle.it_tell.proofs.laws.told_codes_are_true.Goals as goal

pub returns : goal.returns
returns c = told_codes_are_true
