use Rattle.it_run.specs.Choice.{next, IsDone, IsStuck}
use Rattle.it_run.specs.Readings.{weights, point}
use Rattle.it_run.specs.Solving.{StepFits}
use Rattle.it_run.proofs.FirstLemmas.{ends_are_first}
use Rattle.it_tableau.specs.Operations.{rationals}
use Rattle.it_simplex.proofs.laws.ends_at_the_first.Goals as goal

pub returns : goal.returns
returns c = λ m n p budget t e. ends_are_first (IsDone rationals m n) (IsStuck rationals m n) (StepFits m n) (next rationals m n)
    (weights rationals m n) (point rationals m n p) budget t e
