use Rattle.std.proofs.Common.{take, ◌≡◌}
use Rattle.it_terms.proofs.steps.are_same_terms.Given as goal

abbrev pub invariant-loop-i : goal.invariant-loop-i
invariant-loop-i l = take l.i l.terms ≡ take l.i l.others
