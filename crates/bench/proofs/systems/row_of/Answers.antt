use Rattle.std.proofs.Common.{◌+◌, sym, subst}
use Rattle.bench.proofs.SystemRows.{AscendsBelow, ascends_wider, ascends_more, canonical_of}
use Rattle.bench.proofs.systems.row_of.Goals as goal

pub loop-text-preserved : goal.loop-text-preserved
loop-text-preserved c =
    let term = c.in-Some-term_of.term in
    let wider = ascends_wider 0 c.loop-text.least term.0 c.loop-text.terms.items c.in-Some-term_of.ensures.order c.loop-text.invariant in
    subst (AscendsBelow 0 (term.0 + 1)) (sym c.in_ok-append.ensures) (ascends_more 0 term.0 term.1 c.loop-text.terms.items
    c.in-Some-term_of.ensures.some c.in-Some-term_of.ensures.within wider)

pub new-requires-2 : goal.new-requires-2
new-requires-2 c = canonical_of c.loop-text.least c.loop-text.terms.items c.loop-text.invariant
