use Rattle.it_rational.proofs.Field.{field_ℚ}
use Rattle.it_tableau.specs.Operations.{rationals}
use Rattle.it_tableau.specs.SimplexTables.{start}
use Rattle.it_tableau.proofs.StartLemmas.{start_has_invariants}
use Rattle.it_run.proofs.BasisSets.{runs_end}
use Rattle.it_simplex.proofs.laws.runs_end.Goals as goal

pub returns : goal.returns
returns c = λ m n p. runs_end field_ℚ m n p (start rationals m n p) (start_has_invariants field_ℚ m n p)
