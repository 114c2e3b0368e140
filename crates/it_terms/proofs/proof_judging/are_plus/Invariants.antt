use Rattle.std.proofs.Common.{All, take}
use Rattle.it_terms.specs.Proofs.{IsPlusShannon}
use Rattle.it_terms.proofs.proof_judging.are_plus.Given as goal

abbrev pub invariant-loop-term : goal.invariant-loop-term
invariant-loop-term l = All (IsPlusShannon l.space.variables) (take l.term-index l.terms)
