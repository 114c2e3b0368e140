use Rattle.std.proofs.Common.{◌-◌}
use Rattle.it_rational.specs.Rational.{Rational}
use Rattle.it_tableau.specs.SimplexTables.{SimplexTable}
use Rattle.it_run.specs.Runs.{RunEndView}
use Rattle.it_run.specs.Steps.{IsTableauKept, ReachesFrom}
use Rattle.it_run.proofs.run.run_within.Given as goal

-- what the rest of the run does from here it does from the start
abbrev pub invariant-loop-k : goal.invariant-loop-k
invariant-loop-k l = record {
  kept : IsTableauKept l.fn.tableau l.tableau;
  back : (e : RunEndView (SimplexTable Rational) (SimplexTable Rational)) → ReachesFrom l.tableau (l.budget - l.k) l.k e
      → ReachesFrom l.fn.tableau l.budget 0 e;
}
