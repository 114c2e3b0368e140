use Rattle.std.proofs.Common.{◌+◌}
use Rattle.it_fraction.proofs.WholeParts.{IsTurn}
use Rattle.it_fraction.proofs.order.short_compare.Given as goal

abbrev pub invariant-rests : goal.invariant-rests
invariant-rests l = IsTurn l.numerator l.denominator l.other_numerator l.other_denominator l.fn.a l.fn.b l.fn.c l.fn.d

abbrev pub decreases-rests : goal.decreases-rests
decreases-rests l = l.denominator + l.other_denominator
