use Rattle.std.proofs.Common.{◌≡◌, drop, map}
use Rattle.serde_json.specs.View.{items_view}
use Rattle.it_space.specs.Spaces.{size_of}
use Rattle.it_spans.specs.Spans.{step_view}
use Rattle.it_certificate.specs.Bounds.{step_at}
use Rattle.it_certificate.specs.Parts.{all_of}
use Rattle.it_certificate.specs.Steps.{prepend}
use Rattle.it_certificate.proofs.bounds.steps.Given as goal

abbrev pub invariant-loop-value : goal.invariant-loop-value
invariant-loop-value l = prepend (map step_view l.out.items) (all_of (step_at (size_of l.space)) (items_view (drop l.value-index l.values)))
    ≡ all_of (step_at (size_of l.space)) (items_view l.values)
