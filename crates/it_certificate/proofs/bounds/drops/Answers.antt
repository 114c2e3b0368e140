use Rattle.std.proofs.Common.{drop, map, ◌+◌, ap, sym, ◌∙◌}
use Rattle.serde_json.specs.View.{items_view}
use Rattle.it_spans.specs.Drops.{drop_view}
use Rattle.it_certificate.specs.Bounds.{drop_at}
use Rattle.it_certificate.specs.Parts.{all_of}
use Rattle.it_certificate.specs.Steps.{prepend}
use Rattle.it_certificate.proofs.ItemLemmas.{item_seen}
use Rattle.it_certificate.proofs.bounds.drops.Goals as goal

pub loop-value-preserved : goal.loop-value-preserved
loop-value-preserved c =
    ap (λ xs. prepend (map drop_view xs) (all_of drop_at (items_view (drop (c.loop-value.value-index + 1) c.args.values.now)))) c.in_ok-push.ensures.items
    ∙ item_seen drop_at c.args.values.now c.loop-value.value-index c.value-item.result c.loop-value-test.true c.value-item.is drop_view
    c.loop-value.out.items c.in_ok-row.row
    (all_of drop_at (items_view c.args.values.now)) (sym c.in_ok-row.ensures) c.loop-value.invariant
