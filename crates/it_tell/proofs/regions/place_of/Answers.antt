use Rattle.std.proofs.Common.{arith}
use Rattle.it_tell.proofs.OrderLemmas.{last_place, next_place, this_place}
use Rattle.it_tell.proofs.regions.place_of.Goals as goal

pub loop-i-preserved : goal.loop-i-preserved
loop-i-preserved c = next_place c.args.variables c.args.row.now c.args.sorted.now c.loop-i.i _ c.in_ok-is_here.is_here
    (omega arith) c.in_ok-is_here.ensures c.if-is_here.false c.loop-i.invariant

pub returns-then-is_here-clause-place : goal.returns-then-is_here-clause-place
returns-then-is_here-clause-place c = this_place c.args.variables c.args.row.now c.args.sorted.now c.loop-i.i _ c.in_ok-is_here.is_here
    (omega arith) c.in_ok-is_here.ensures c.if-is_here.true c.loop-i.invariant

pub returns-clause-place : goal.returns-clause-place
returns-clause-place c = last_place c.args.variables c.args.row.now c.args.sorted.now c.loop-i.i (omega arith) (omega arith) c.loop-i.invariant
