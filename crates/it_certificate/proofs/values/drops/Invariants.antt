use Rattle.std.proofs.Common.{◌≡◌, map, take}
use Rattle.serde_json.specs.View.{view}
use Rattle.it_certificate.specs.Values.{drop_value}
use Rattle.it_spans.specs.Drops.{drop_view}
use Rattle.it_certificate.proofs.values.drops.Given as goal

abbrev pub invariant-loop-row : goal.invariant-loop-row
invariant-loop-row l = map view l.values.items ≡ map drop_value (map drop_view (take l.row-index l.drops))
