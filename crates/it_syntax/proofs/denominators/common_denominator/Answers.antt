use Rattle.std.proofs.Common.{}
use Rattle.it_syntax.specs.Meaning.{multiple_from}
use Rattle.it_syntax.proofs.MultipleLemmas.{start_limited}
use Rattle.it_syntax.proofs.denominators.common_denominator.Goals as goal

pub multiple_from-left-requires-clause-some : goal.multiple_from-left-requires-clause-some
multiple_from-left-requires-clause-some c = rw c.as_slice.ensures.value
    (start_limited (multiple_from 1 c.args.relation.now.left.terms.items) c.args.relation.now.right.terms.items
    (c.requires.some, c.requires.small)).0

pub multiple_from-left-requires-clause-small : goal.multiple_from-left-requires-clause-small
multiple_from-left-requires-clause-small c = rw c.as_slice.ensures.value
    (start_limited (multiple_from 1 c.args.relation.now.left.terms.items) c.args.relation.now.right.terms.items
    (c.requires.some, c.requires.small)).1
