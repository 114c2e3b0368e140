use Rattle.std.proofs.Common.{rules, ◌≡◌, get_or, true, false, not, ◌||◌}
use Rattle.it_outer.proofs.OrderLemmas.{loose_or, tight_or, within_later}
use Rattle.it_outer.proofs.extremes.is_within.Goals as goal
use Rattle.it_outer.proofs.extremes.is_within.Goals.{else-list-i-via-then-list-i+else-not-flag_at, else-list-i-via-else-list-i}

pub loop-i-preserved : goal.loop-i-preserved
loop-i-preserved c =
    let here = get_or c.args.list.now c.loop-i.i false in
    let goes : (not here || get_or c.args.other.now c.loop-i.i false) ≡ true = elim c.else-list-i.branch [
      | else-list-i-via-then-list-i+else-not-flag_at w ↦ tight_or here (get_or c.args.other.now c.loop-i.i false) (search rules)
      | else-list-i-via-else-list-i w ↦ loose_or here (get_or c.args.other.now c.loop-i.i false) (search rules)
    ] in
    within_later c.args.list.now c.args.other.now c.loop-i.i here c.loop-i-test.true (search rules) goes c.loop-i.invariant
