use Rattle.std.proofs.Common.{drop, ◌+◌, ap, ◌∙◌}
use Rattle.serde_json.specs.View.{items_view}
use Rattle.it_certificate.specs.CodeReading.{coefficient_at}
use Rattle.it_certificate.specs.Parts.{all_of}
use Rattle.it_certificate.specs.Steps.{prepend}
use Rattle.it_certificate.proofs.ItemLemmas.{item_more, item_without}
use Rattle.it_certificate.proofs.codes.coefficients.Goals as goal

pub loop-value-preserved : goal.loop-value-preserved
loop-value-preserved c =
    ap (λ xs. prepend xs (all_of (coefficient_at c.args.elements) (items_view (drop (c.loop-value.value-index + 1) c.args.values.now))))
    c.in_ok-push.ensures.items
    ∙ item_more (coefficient_at c.args.elements) c.args.values.now c.loop-value.value-index c.value-item.result c.loop-value-test.true
    c.value-item.is c.loop-value.out.items c.in-Some.coefficient
    (all_of (coefficient_at c.args.elements) (items_view c.args.values.now)) c.in-Some.ensures c.loop-value.invariant

pub returns-in_default : goal.returns-in_default
returns-in_default c = item_without (coefficient_at c.args.elements) c.args.values.now c.loop-value.value-index c.value-item.result
    c.loop-value-test.true c.value-item.is c.loop-value.out.items
    (all_of (coefficient_at c.args.elements) (items_view c.args.values.now)) c.in_default.ensures c.loop-value.invariant
