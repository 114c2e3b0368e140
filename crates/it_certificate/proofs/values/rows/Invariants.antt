use Rattle.std.proofs.Common.{◌≡◌, map, take}
use Rattle.serde_json.specs.View.{view}
use Rattle.it_certificate.specs.Values.{row_value}
use Rattle.it_certificate.proofs.values.rows.Given as goal

abbrev pub invariant-loop-marked : goal.invariant-loop-marked
invariant-loop-marked l = map view l.values.items ≡ map row_value (take l.marked-index l.rows)
