use Rattle.std.proofs.Common.{drop, map, ◌+◌, ap, sym, ◌∙◌}
use Rattle.serde_json.specs.View.{items_view}
use Rattle.it_certificate.specs.CodeReading.{function_at}
use Rattle.it_certificate.specs.Parts.{all_of}
use Rattle.it_certificate.specs.Steps.{prepend}
use Rattle.it_certificate.proofs.ItemLemmas.{item_seen}
use Rattle.it_certificate.proofs.codes.functions.Goals as goal

pub loop-value-preserved : goal.loop-value-preserved
loop-value-preserved c =
    ap (λ xs. prepend (map (λ f. f.items) xs) (all_of (function_at c.args.elements c.args.symbols)
    (items_view (drop (c.loop-value.value-index + 1) c.args.values.now)))) c.in_ok-push.ensures.items
    ∙ item_seen (function_at c.args.elements c.args.symbols) c.args.values.now c.loop-value.value-index c.value-item.result
    c.loop-value-test.true c.value-item.is (λ f. f.items) c.loop-value.out.items c.in_ok-function.function
    (all_of (function_at c.args.elements c.args.symbols) (items_view c.args.values.now)) (sym c.in_ok-function.ensures) c.loop-value.invariant
