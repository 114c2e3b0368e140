use Rattle.it_answer.proofs.ReachLemmas.{file_is_in_reach}
use Rattle.it_answer.proofs.laws.files_are_in_reach.Goals as goal

pub returns : goal.returns
returns c = file_is_in_reach
