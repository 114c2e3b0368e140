use Rattle.it_run.specs.Steps.{IsTableauKept}
use Rattle.it_run.proofs.UnboundRuns.{steps_left_to, IsRunUnderWay}
use Rattle.it_run.proofs.run.run_on.Given as goal

abbrev pub invariant-steps : goal.invariant-steps
invariant-steps l = record {
  kept : IsTableauKept l.fn.tableau l.tableau;
  way : IsRunUnderWay l.fn.tableau l.tableau l.number;
}

-- each step lowers the number of steps that are left
abbrev pub decreases-steps : goal.decreases-steps
decreases-steps l = steps_left_to l.tableau
