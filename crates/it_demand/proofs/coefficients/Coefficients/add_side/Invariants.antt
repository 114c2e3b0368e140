use Rattle.std.proofs.Common.{◌^◌}
use Rattle.it_demand.proofs.ListLemmas.{IsUnderWay, side_form}
use Rattle.it_demand.proofs.coefficients.Coefficients.add_side.Given as goal

abbrev pub invariant-loop-term : goal.invariant-loop-term
invariant-loop-term l = IsUnderWay (side_form l.space.variables l.multiple l.negative) (2 ^ 98) l.initial.self l.self l.terms l.term-index
