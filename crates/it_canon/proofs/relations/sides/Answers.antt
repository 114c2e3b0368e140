use Rattle.it_syntax.specs.Meaning.{relation_view}
use Rattle.it_syntax.proofs.MultipleLemmas.{left_denominators, right_denominators}
use Rattle.it_canon.proofs.relations.sides.Goals as goal

pub side-requires-clause-denominators : goal.side-requires-clause-denominators
side-requires-clause-denominators c = let k = c.requires.within
    in rw c.as_slice.ensures.value (left_denominators (relation_view c.args.relation.now) (k.some_multiple, k.small_multiple))

pub side-requires-2-clause-denominators : goal.side-requires-2-clause-denominators
side-requires-2-clause-denominators c = let k = c.requires.within
    in rw c.as_slice-2.ensures.value (right_denominators (relation_view c.args.relation.now) (k.some_multiple, k.small_multiple))
