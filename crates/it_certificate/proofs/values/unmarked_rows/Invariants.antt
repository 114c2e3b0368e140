use Rattle.std.proofs.Common.{◌≡◌, map, take}
use Rattle.serde_json.specs.View.{view}
use Rattle.it_certificate.specs.Values.{unmarked_row_value}
use Rattle.it_certificate.proofs.values.unmarked_rows.Given as goal

abbrev pub invariant-loop-row : goal.invariant-loop-row
invariant-loop-row l = map view l.values.items ≡ map unmarked_row_value (take l.row-index l.rows)
