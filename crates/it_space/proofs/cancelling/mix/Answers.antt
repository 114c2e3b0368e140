use Rattle.it_space.proofs.MixLemmas.{left_canonical, right_canonical, mix_more, mix_done}
use Rattle.it_space.proofs.cancelling.mix.Goals as goal

pub first_coordinate-requires-clause-left : goal.first_coordinate-requires-clause-left
first_coordinate-requires-clause-left c = left_canonical c.loop-coordinate.invariant

pub first_coordinate-requires-clause-right : goal.first_coordinate-requires-clause-right
first_coordinate-requires-clause-right c = right_canonical c.loop-coordinate.invariant

pub loop-coordinate-preserved : goal.loop-coordinate-preserved
loop-coordinate-preserved c = mix_more c.args.at c.args.a c.args.b c.in-Some.coordinate c.args.up.now c.args.down.now
    c.loop-coordinate.left.now c.loop-coordinate.right.now
    c.rest_after-left.result.now c.rest_after-right.result.now c.rest_after-left.ensures c.rest_after-right.ensures
    c.loop-coordinate.terms.items c.put_term.new.terms.items
    c.in-Some.ensures.some c.in_ok-put_term.ensures.is c.loop-coordinate.invariant

pub returns-clause-is : goal.returns-clause-is
returns-clause-is c = mix_done c.args.at c.args.a c.args.b c.args.up.now c.args.down.now c.loop-coordinate.left.now
    c.loop-coordinate.right.now c.loop-coordinate.terms.items
    c.loop-coordinate.invariant c.in_default.ensures.none.0 c.in_default.ensures.none.1
