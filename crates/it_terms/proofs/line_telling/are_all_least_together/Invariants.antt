use Rattle.std.proofs.Common.{take}
use Rattle.std.specs.List.{AllZip}
use Rattle.it_terms.specs.Signs.{AreLeastTogether}
use Rattle.it_terms.proofs.line_telling.are_all_least_together.Given as goal

abbrev pub invariant-loop-i : goal.invariant-loop-i
invariant-loop-i l = AllZip AreLeastTogether (take l.i l.rows) (take l.i l.others)
