use Rattle.std.proofs.Common.{arith, ◌∙◌}
use Rattle.std.proofs.lemmas.List.{take_all}
use Rattle.it_tell.proofs.OrderLemmas.{turn_more}
use Rattle.it_tell.proofs.regions.rows_in_turn.Goals as goal

pub loop-row-preserved : goal.loop-row-preserved
loop-row-preserved c = turn_more c.args.rows.now _ c.loop-row.all.items c.push.new.self.items c.loop-row.row-index
    (omega arith) c.row-item.is c.in_ok-push.ensures.items c.loop-row.invariant

pub returns : goal.returns
returns c = c.loop-row.invariant ∙ take_all c.loop-row.row-index c.args.rows.now (omega arith)
