use Rattle.std.proofs.Common.{rules, get_or, false, not}
use Rattle.it_outer.proofs.OrderLemmas.{any_later}
use Rattle.it_outer.proofs.extremes.has_loose.Goals as goal

pub loop-is_tight-preserved : goal.loop-is_tight-preserved
loop-is_tight-preserved c = any_later not c.args.list.now c.loop-is_tight.is_tight-index
    (get_or c.args.list.now c.loop-is_tight.is_tight-index false) c.loop-is_tight-test.true (search rules)
    (search rules) c.loop-is_tight.invariant
