use Rattle.std.proofs.Common.{rules, ◌≡◌, true, get_or}
use Rattle.std.specs.Ordering.{int_eq}
use Rattle.it_space.specs.Rows.{coefficient}
use Rattle.it_outer.proofs.OrderLemmas.{greater_later}
use Rattle.it_outer.proofs.extremes.is_greater.Goals as goal

pub loop-at-preserved : goal.loop-at-preserved
loop-at-preserved c =
    let same : int_eq (coefficient c.args.row.now (get_or c.args.kept.now c.loop-at.at-index 0))
    (coefficient c.args.other.now (get_or c.args.kept.now c.loop-at.at-index 0)) ≡ true = search rules in
    greater_later c.args.kept.now c.args.row.now c.args.other.now c.loop-at.at-index c.loop-at-test.true same c.loop-at.invariant
