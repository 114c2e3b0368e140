use Rattle.std.proofs.Common.{◌-◌, ◌≤◌, length}
use Rattle.it_vectors.proofs.Divisions.{DividesUpTo}
use Rattle.it_vectors.proofs.narrow_numbers.divisor.Given as goal

abbrev pub invariant-loop-from : goal.invariant-loop-from
invariant-loop-from l = record {
  within : l.from ≤ length l.row;
  divides : DividesUpTo l.shared.value l.denominator l.row l.from;
}

abbrev pub decreases-loop-from : goal.decreases-loop-from
decreases-loop-from l = length l.row - l.from
