use Rattle.std.proofs.Common.{take}
use Rattle.it_terms.specs.Sums.{AreChosen}
use Rattle.it_terms.proofs.under.chosen.Given as goal

abbrev pub invariant-loop-line : goal.invariant-loop-line
invariant-loop-line l = AreChosen l.constraints (take l.line-index l.lines) l.chosen.items
