use Rattle.std.proofs.Common.{◌≡◌, drop, map}
use Rattle.serde_json.specs.View.{items_view}
use Rattle.it_spans.specs.Drops.{drop_view}
use Rattle.it_certificate.specs.Bounds.{drop_at}
use Rattle.it_certificate.specs.Parts.{all_of}
use Rattle.it_certificate.specs.Steps.{prepend}
use Rattle.it_certificate.proofs.bounds.drops.Given as goal

abbrev pub invariant-loop-value : goal.invariant-loop-value
invariant-loop-value l = prepend (map drop_view l.out.items) (all_of drop_at (items_view (drop l.value-index l.values))) ≡ all_of drop_at (items_view l.values)
