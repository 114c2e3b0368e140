use Rattle.std.proofs.Common.{◌≡◌, ◌++◌, ◌-◌}
use Rattle.it_region.specs.Pulling.{singles}
use Rattle.it_region.proofs.pulled_rows.singles.Given as goal

abbrev pub invariant-loop-i : goal.invariant-loop-i
invariant-loop-i l = l.sets.items ++ singles l.i (l.count - l.i) ≡ singles 0 l.count
