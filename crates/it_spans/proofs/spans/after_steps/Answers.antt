use Rattle.std.proofs.Common.{List, sym, ap, subst}
use Rattle.it_space.specs.Rows.{Terms}
use Rattle.it_spans.specs.Spans.{spanned_view}
use Rattle.it_spans.proofs.SpanLemmas.{IsLed, led_fault, led_first, led_more}
use Rattle.it_spans.proofs.spans.after_steps.Goals as goal

pub loop-ray-init : goal.loop-ray-init
loop-ray-init c = subst (λ (rs : List Terms). IsLed c.args.frame c.args.kept.now c.args.steps.now 0 rs) (sym c.in_ok-rows.ensures)
    (led_first c.args.frame c.args.kept.now c.args.steps.now c.requires.kept)

pub loop-ray-preserved : goal.loop-ray-preserved
loop-ray-preserved c = led_more c.args.frame c.requires.frame c.args.kept.now c.args.steps.now c.loop-ray.ray c.loop-ray.rows.items
    c.loop-ray.invariant c.index-steps-ray.result c.loop-ray-test.true c.index-steps-ray.is
    c.in_ok-next.field-0 c.in-Hull.next.items (ap spanned_view c.in-Hull.is) c.in_ok-next.ensures

pub returns-in-Faulty : goal.returns-in-Faulty
returns-in-Faulty c = led_fault c.args.frame c.requires.frame c.args.kept.now c.args.steps.now c.loop-ray.ray c.loop-ray.rows.items
    c.loop-ray.invariant c.index-steps-ray.result c.loop-ray-test.true c.index-steps-ray.is
    c.in_ok-next.field-0 c.in-Faulty.fault (ap spanned_view c.in-Faulty.is) c.in_ok-next.ensures
