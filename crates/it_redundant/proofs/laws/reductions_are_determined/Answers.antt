use Rattle.it_redundant.proofs.ProjectionLemmas.{one_reduced_end}
use Rattle.it_redundant.proofs.ReductionLemmas.{one_reduction}
use Rattle.it_redundant.proofs.laws.reductions_are_determined.Goals as goal

pub returns-clause-reduction : goal.returns-clause-reduction
returns-clause-reduction c = one_reduction

pub returns-clause-elimination : goal.returns-clause-elimination
returns-clause-elimination c = one_reduced_end
