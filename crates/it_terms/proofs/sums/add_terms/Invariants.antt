use Rattle.std.proofs.Common.{}
use Rattle.it_terms.proofs.SumLemmas.{IsPartAdded, times_form}
use Rattle.it_terms.proofs.sums.add_terms.Given as goal

abbrev pub invariant-loop-term : goal.invariant-loop-term
invariant-loop-term l = IsPartAdded (times_form l.weight.1) l.initial.sums l.sums l.terms l.term-index
