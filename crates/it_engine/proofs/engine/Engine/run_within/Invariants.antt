use Rattle.std.proofs.Common.{◌≤◌, ◌-◌}
use Rattle.it_engine.proofs.Runs.{IsRunUnderWay}
use Rattle.it_engine.proofs.engine.Engine.run_within.Given as goal

abbrev pub invariant-loop-k : goal.invariant-loop-k
invariant-loop-k l = record {
  under_way : IsRunUnderWay l.run.columns.now l.run.limit l.fn.self.rows l.fn.self.basis l.budget l.self.rows l.self.basis l.k;
  within : l.k ≤ l.budget;
}

abbrev pub decreases-loop-k : goal.decreases-loop-k
decreases-loop-k l = l.budget - l.k
