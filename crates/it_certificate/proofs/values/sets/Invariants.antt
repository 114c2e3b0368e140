use Rattle.std.proofs.Common.{◌≡◌, map, take}
use Rattle.serde_json.specs.View.{view}
use Rattle.it_certificate.specs.Values.{count_value}
use Rattle.it_certificate.proofs.values.sets.Given as goal

abbrev pub invariant-loop-part : goal.invariant-loop-part
invariant-loop-part l = map view l.values.items ≡ map count_value (take l.part-index l.sets)
