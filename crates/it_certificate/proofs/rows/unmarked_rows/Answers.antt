use Rattle.std.proofs.Common.{drop, ◌+◌, ap, sym, ◌∙◌}
use Rattle.serde_json.specs.View.{items_view}
use Rattle.it_certificate.specs.Parts.{all_of, unmarked_row_at}
use Rattle.it_certificate.specs.Steps.{prepend}
use Rattle.it_certificate.proofs.ItemLemmas.{item_more}
use Rattle.it_certificate.proofs.rows.unmarked_rows.Goals as goal

pub loop-value-preserved : goal.loop-value-preserved
loop-value-preserved c =
    ap (λ xs. prepend xs (all_of (unmarked_row_at c.args.size) (items_view (drop (c.loop-value.value-index + 1) c.args.values.now)))) c.in_ok-push.ensures.items
    ∙ item_more (unmarked_row_at c.args.size) c.args.values.now c.loop-value.value-index c.value-item.result c.loop-value-test.true
    c.value-item.is c.loop-value.out.items c.in_ok-row.row
    (all_of (unmarked_row_at c.args.size) (items_view c.args.values.now)) (sym c.in_ok-row.ensures) c.loop-value.invariant
