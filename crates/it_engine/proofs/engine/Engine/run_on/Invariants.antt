use Rattle.it_engine.proofs.StepsLeft.{steps_left_to}
use Rattle.it_engine.proofs.UnboundRuns.{IsRunUnderWay}
use Rattle.it_engine.proofs.engine.Engine.run_on.Given as goal

abbrev pub invariant-steps : goal.invariant-steps
invariant-steps l = IsRunUnderWay l.run.columns.now l.run.limit l.fn.self.rows l.fn.self.basis l.self.rows l.self.basis

abbrev pub decreases-steps : goal.decreases-steps
decreases-steps l = steps_left_to l.run.columns.now l.self.rows l.self.basis
