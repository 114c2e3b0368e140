use Rattle.std.proofs.Common.{◌-◌, ◌≤◌, length}
use Rattle.it_engine.proofs.Readings.{WeightsSoFar}
use Rattle.it_engine.proofs.reading.weights.Given as goal

abbrev pub invariant-loop-row : goal.invariant-loop-row
invariant-loop-row l = record {
  within : l.from ≤ length l.columns;
  so_far : WeightsSoFar l.columns l.rows l.basis l.out.items l.from;
}

abbrev pub decreases-loop-row : goal.decreases-loop-row
decreases-loop-row l = length l.columns - l.from
