use Rattle.it_vectors.proofs.Divisions.{DividesUpTo}
use Rattle.it_vectors.proofs.numbers.divisor.Given as goal

abbrev pub invariant-loop-k : goal.invariant-loop-k
invariant-loop-k l = DividesUpTo l.shared.value l.denominator l.row l.k
