use Rattle.it_cli.proofs.ReachLemmas.{copies_are_in_reach, sharing_is_in_reach}
use Rattle.it_cli.proofs.laws.questions_are_in_reach.Goals as goal

pub returns-clause-file : goal.returns-clause-file
returns-clause-file c = c.files_are_in_reach.ensures

pub returns-clause-copies : goal.returns-clause-copies
returns-clause-copies c = copies_are_in_reach

pub returns-clause-sharing : goal.returns-clause-sharing
returns-clause-sharing c = sharing_is_in_reach
