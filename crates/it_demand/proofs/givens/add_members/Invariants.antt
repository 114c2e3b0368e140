use Rattle.std.proofs.Common.{}
use Rattle.it_syntax.specs.Givens.{sum_of_conditionals}
use Rattle.it_demand.proofs.ListLemmas.{IsUnderWay}
use Rattle.it_demand.proofs.givens.add_members.Given as goal

abbrev pub invariant-loop-member : goal.invariant-loop-member
invariant-loop-member l = IsUnderWay (λ members p. sum_of_conditionals l.space.variables p members l.given) 4 l.initial.sums l.sums l.members l.member-index
