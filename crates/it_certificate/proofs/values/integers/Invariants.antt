use Rattle.std.proofs.Common.{◌≡◌, map, take}
use Rattle.serde_json.specs.View.{view}
use Rattle.it_certificate.specs.Values.{integer_value}
use Rattle.it_certificate.proofs.values.integers.Given as goal

abbrev pub invariant-loop-number : goal.invariant-loop-number
invariant-loop-number l = map view l.values.items ≡ map integer_value (take l.number-index l.numbers)
