use Rattle.std.proofs.Common.{take}
use Rattle.it_terms.specs.Signs.{AreGivenEquations}
use Rattle.it_terms.proofs.row_judging.are_given_equations.Given as goal

abbrev pub invariant-loop-line : goal.invariant-loop-line
invariant-loop-line l = AreGivenEquations l.constraints (take l.line-index l.lines)
