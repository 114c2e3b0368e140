use Rattle.std.proofs.Common.{◌≡◌, ◌++◌, drop, take}
use Rattle.it_outer.specs.Extremes.{put_in_order}
use Rattle.it_outer.proofs.extremes.place_of.Given as goal

abbrev pub invariant-loop-i : goal.invariant-loop-i
invariant-loop-i l = take l.i l.points ++ put_in_order l.kept l.point (drop l.i l.points) ≡ put_in_order l.kept l.point l.points
