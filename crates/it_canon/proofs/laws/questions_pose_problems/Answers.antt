use Rattle.it_canon.proofs.ExistenceLemmas.{file_has_problems, file_has_rows}
use Rattle.it_canon.proofs.PosesLemmas.{one_problem}
use Rattle.it_canon.proofs.SmallProblems.{file_tables_small}
use Rattle.it_canon.proofs.laws.questions_pose_problems.Goals as goal

pub returns-clause-problem : goal.returns-clause-problem
returns-clause-problem c = file_has_problems

pub returns-clause-rows : goal.returns-clause-rows
returns-clause-rows c = file_has_rows

pub returns-clause-one : goal.returns-clause-one
returns-clause-one c = one_problem

pub returns-clause-small : goal.returns-clause-small
returns-clause-small c = file_tables_small
