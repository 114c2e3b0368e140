use Rattle.std.proofs.Common.{◌≡◌, drop}
use Rattle.it_outer.specs.Extremes.{is_within}
use Rattle.it_outer.proofs.extremes.is_within.Given as goal

abbrev pub invariant-loop-i : goal.invariant-loop-i
invariant-loop-i l = is_within (drop l.i l.list) (drop l.i l.other) ≡ is_within l.list l.other
