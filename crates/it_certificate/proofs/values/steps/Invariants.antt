use Rattle.std.proofs.Common.{◌≡◌, map, take}
use Rattle.serde_json.specs.View.{view}
use Rattle.it_certificate.specs.Values.{step_value}
use Rattle.it_spans.specs.Spans.{step_view}
use Rattle.it_certificate.proofs.values.steps.Given as goal

abbrev pub invariant-loop-one : goal.invariant-loop-one
invariant-loop-one l = map view l.values.items ≡ map step_value (map step_view (take l.one-index l.steps))
