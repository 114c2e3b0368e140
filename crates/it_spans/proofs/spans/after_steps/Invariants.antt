use Rattle.it_spans.proofs.SpanLemmas.{IsLed}
use Rattle.it_spans.proofs.spans.after_steps.Given as goal

abbrev pub invariant-loop-ray : goal.invariant-loop-ray
invariant-loop-ray l = IsLed l.frame l.kept l.steps l.ray l.rows.items
