use Rattle.std.proofs.Common.{rules, ◌≡◌, false, is_some}
use Rattle.it_spans.proofs.DropLemmas.{drop_goes}
use Rattle.it_spans.proofs.drops.drop_rows.Goals as goal

pub loop-number-preserved : goal.loop-number-preserved
loop-number-preserved c =
    let none : is_some c.in_ok-fault.fault ≡ false = search rules in
    drop_goes c.args.givens.now.space c.args.ray c.args.rows.now.items c.loop-number.rows.items c.args.drops.now c.loop-number.number
    c.loop-number.invariant c.index-drops-number.result c.loop-number-test.true c.index-drops-number.is
    c.in_ok-fault.fault c.drop_row.new.rows.items c.in_ok-fault.ensures.fault none c.in_ok-fault.ensures.rows
