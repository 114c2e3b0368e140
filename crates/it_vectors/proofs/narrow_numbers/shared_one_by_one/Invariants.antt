use Rattle.it_vectors.specs.Quotients.{IsSharedPart}
use Rattle.it_vectors.proofs.narrow_numbers.shared_one_by_one.Given as goal

abbrev pub invariant-loop-k : goal.invariant-loop-k
invariant-loop-k l = IsSharedPart l.row l.from l.k l.fn.earlier.value l.shared.value
