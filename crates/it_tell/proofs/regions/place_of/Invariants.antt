use Rattle.std.proofs.Common.{◌≡◌, ◌++◌, drop, map, take}
use Rattle.it_tell.specs.SortedRows.{put_in_order}
use Rattle.it_tell.proofs.regions.place_of.Given as goal

abbrev pub invariant-loop-i : goal.invariant-loop-i
invariant-loop-i l = put_in_order l.variables l.row (map (λ r. r.now) l.sorted)
    ≡ take l.i (map (λ r. r.now) l.sorted) ++ put_in_order l.variables l.row (drop l.i (map (λ r. r.now) l.sorted))
