use Rattle.std.proofs.Common.{drop, map, ◌+◌, ap, sym, ◌∙◌}
use Rattle.serde_json.specs.View.{items_view}
use Rattle.it_space.specs.Answers.{certificate_view}
use Rattle.it_certificate.specs.Parts.{certificate_at, all_of}
use Rattle.it_certificate.specs.Steps.{prepend}
use Rattle.it_certificate.proofs.ItemLemmas.{item_seen}
use Rattle.it_certificate.proofs.lists.certificates.Goals as goal

pub loop-value-preserved : goal.loop-value-preserved
loop-value-preserved c =
    ap (λ cs. prepend (map certificate_view cs) (all_of certificate_at (items_view
    (drop (c.loop-value.value-index + 1) c.args.values.now)))) c.in_ok-push.ensures.items
    ∙ item_seen certificate_at c.args.values.now c.loop-value.value-index c.value-item.result c.loop-value-test.true c.value-item.is
    certificate_view c.loop-value.out.items c.in_ok-certificate.certificate
    (all_of certificate_at (items_view c.args.values.now)) (sym c.in_ok-certificate.ensures) c.loop-value.invariant
