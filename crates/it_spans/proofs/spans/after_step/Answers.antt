use Rattle.it_spans.proofs.SpanLemmas.{drops_of_region}
use Rattle.it_spans.proofs.spans.after_step.Goals as goal

pub after_drops-requires : goal.after_drops-requires
after_drops-requires c =
    let d = drops_of_region c.args.frame c.args.givens.now c.args.rows.items c.args.step.now.ray c.in_ok-left.left c.in-Region.next
    c.requires.frame c.requires.givens c.requires.rows c.in-Region.is c.in_ok-left.ensures.ends in
    record { givens = d.givens; over = d.over; few = d.few }
