use Rattle.std.proofs.Common.{}
use Rattle.it_syntax.proofs.MultipleLemmas.{IsMultipleSoFar}
use Rattle.it_syntax.proofs.denominators.multiple_from.Given as goal

abbrev pub invariant-loop-term : goal.invariant-loop-term
invariant-loop-term l = IsMultipleSoFar l.first l.terms l.term-index l.multiple
