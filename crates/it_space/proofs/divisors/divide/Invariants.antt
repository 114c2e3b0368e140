use Rattle.std.proofs.Common.{◌≡◌, ◌++◌, drop, take}
use Rattle.it_space.specs.Divisors.{divided_terms}
use Rattle.it_space.proofs.divisors.divide.Given as goal

abbrev pub invariant-loop-term : goal.invariant-loop-term
invariant-loop-term l = l.terms ≡ divided_terms l.by (take l.term-index l.initial.terms) ++ drop l.term-index l.initial.terms
