use Rattle.std.proofs.Common.{◌≡◌, drop}
use Rattle.it_outer.specs.Extremes.{is_greater}
use Rattle.it_outer.proofs.extremes.is_greater.Given as goal

abbrev pub invariant-loop-at : goal.invariant-loop-at
invariant-loop-at l = is_greater (drop l.at-index l.kept) l.row l.other ≡ is_greater l.kept l.row l.other
