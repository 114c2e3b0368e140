use Rattle.std.proofs.Common.{drop, map, ◌+◌, ap, sym, ◌∙◌}
use Rattle.serde_json.specs.View.{items_view}
use Rattle.it_space.specs.Spaces.{size_of}
use Rattle.it_spans.specs.Spans.{step_view}
use Rattle.it_certificate.specs.Bounds.{step_at}
use Rattle.it_certificate.specs.Parts.{all_of}
use Rattle.it_certificate.specs.Steps.{prepend}
use Rattle.it_certificate.proofs.ItemLemmas.{item_seen}
use Rattle.it_certificate.proofs.bounds.steps.Goals as goal

pub loop-value-preserved : goal.loop-value-preserved
loop-value-preserved c =
    ap (λ xs. prepend (map step_view xs) (all_of (step_at (size_of c.args.space))
    (items_view (drop (c.loop-value.value-index + 1) c.args.values.now)))) c.in_ok-push.ensures.items
    ∙ item_seen (step_at (size_of c.args.space)) c.args.values.now c.loop-value.value-index c.value-item.result c.loop-value-test.true
    c.value-item.is step_view c.loop-value.out.items c.in_ok-step.step
    (all_of (step_at (size_of c.args.space)) (items_view c.args.values.now)) (sym c.in_ok-step.ensures) c.loop-value.invariant
