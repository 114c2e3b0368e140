use Rattle.std.proofs.Common.{◌≡◌, map, take}
use Rattle.it_tell.proofs.regions.rows_in_turn.Given as goal

abbrev pub invariant-loop-row : goal.invariant-loop-row
invariant-loop-row l = map (λ r. r.now) l.all.items ≡ take l.row-index l.rows
