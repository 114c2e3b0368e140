use Rattle.std.proofs.Common.{}
use Rattle.it_syntax.proofs.MultipleLemmas.{multiple_next, multiple_goes_on, multiple_done}
use Rattle.it_syntax.proofs.denominators.multiple_from.Goals as goal

pub next_multiple-multiple-requires-clause-some : goal.next_multiple-multiple-requires-clause-some
next_multiple-multiple-requires-clause-some c = (multiple_next c.args.first c.args.terms.now c.loop-term.term-index c.loop-term.multiple
    c.term-item.result c.loop-term-test.true c.term-item.is c.loop-term.invariant).0

pub next_multiple-multiple-requires-clause-both : goal.next_multiple-multiple-requires-clause-both
next_multiple-multiple-requires-clause-both c = (multiple_next c.args.first c.args.terms.now c.loop-term.term-index c.loop-term.multiple
    c.term-item.result c.loop-term-test.true c.term-item.is c.loop-term.invariant).1

pub next_multiple-multiple-requires-clause-small : goal.next_multiple-multiple-requires-clause-small
next_multiple-multiple-requires-clause-small c = (multiple_next c.args.first c.args.terms.now c.loop-term.term-index c.loop-term.multiple
    c.term-item.result c.loop-term-test.true c.term-item.is c.loop-term.invariant).2

pub loop-term-preserved : goal.loop-term-preserved
loop-term-preserved c = multiple_goes_on c.args.first c.args.terms.now c.loop-term.term-index c.loop-term.multiple
    c.next_multiple-multiple.result c.term-item.result c.loop-term-test.true c.term-item.is c.next_multiple-multiple.ensures
    c.loop-term.invariant

pub returns : goal.returns
returns c = multiple_done c.args.first c.args.terms.now c.loop-term.term-index c.loop-term.multiple c.loop-term-test.false c.loop-term.invariant
