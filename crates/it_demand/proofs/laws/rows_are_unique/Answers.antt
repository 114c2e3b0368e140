use Rattle.it_demand.proofs.UniqueRows.{one_row, one_row_list, one_constraint_list}
use Rattle.it_demand.proofs.laws.rows_are_unique.Goals as goal

pub returns-clause-row : goal.returns-clause-row
returns-clause-row c = one_row

pub returns-clause-rows : goal.returns-clause-rows
returns-clause-rows c = one_row_list

pub returns-clause-constraints : goal.returns-clause-constraints
returns-clause-constraints c = one_constraint_list
