use Rattle.std.proofs.Common.{}
use Rattle.it_terms.specs.Sums.{constraint_value}
use Rattle.it_terms.proofs.SumLemmas.{IsPartAdded, weights_form}
use Rattle.it_terms.proofs.sums.add_constraints.Given as goal

abbrev pub invariant-loop-weight : goal.invariant-loop-weight
invariant-loop-weight l = IsPartAdded (weights_form (constraint_value l.constraints)) l.initial.sums l.sums l.weights l.weight-index
