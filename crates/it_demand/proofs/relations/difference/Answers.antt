use Rattle.std.proofs.Common.{arith}
use Rattle.it_syntax.specs.Meaning.{relation_view}
use Rattle.it_syntax.proofs.MultipleLemmas.{left_denominators, right_denominators}
use Rattle.it_demand.proofs.relations.difference.Goals as goal

pub add_side-requires-clause-denominators : goal.add_side-requires-clause-denominators
add_side-requires-clause-denominators c = let k = c.requires.within
    in rw c.as_slice.ensures.value (left_denominators (relation_view c.args.relation.now) (k.some_multiple, k.small_multiple))

pub add_side-requires-2-clause-denominators : goal.add_side-requires-2-clause-denominators
add_side-requires-2-clause-denominators c = let k = c.requires.within
    in rw c.as_slice-2.ensures.value (right_denominators (relation_view c.args.relation.now) (k.some_multiple, k.small_multiple))

pub into_row-requires-clause-complete : goal.into_row-requires-clause-complete
into_row-requires-clause-complete c = omega (arith, c.in_ok-sums.ensures.few, c.add_side.ensures.complete, c.add_side-2.ensures.complete)
