use Rattle.std.proofs.Common.{drop, map, ◌+◌, ap, sym, ◌∙◌}
use Rattle.serde_json.specs.View.{items_view}
use Rattle.it_codes.specs.Codes.{functions_of}
use Rattle.it_certificate.specs.CodeReading.{variable_at}
use Rattle.it_certificate.specs.Parts.{all_of}
use Rattle.it_certificate.specs.Steps.{prepend}
use Rattle.it_certificate.proofs.ItemLemmas.{item_seen}
use Rattle.it_certificate.proofs.codes.variables.Goals as goal

pub loop-value-preserved : goal.loop-value-preserved
loop-value-preserved c =
    ap (λ xs. prepend (map functions_of xs) (all_of (variable_at c.args.elements c.args.symbols)
    (items_view (drop (c.loop-value.value-index + 1) c.args.values.now)))) c.in_ok-push.ensures.items
    ∙ item_seen (variable_at c.args.elements c.args.symbols) c.args.values.now c.loop-value.value-index c.value-item.result
    c.loop-value-test.true c.value-item.is functions_of c.loop-value.out.items c.in_ok-variable.variable
    (all_of (variable_at c.args.elements c.args.symbols) (items_view c.args.values.now)) (sym c.in_ok-variable.ensures) c.loop-value.invariant
