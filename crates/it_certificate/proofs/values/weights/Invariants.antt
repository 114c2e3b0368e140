use Rattle.std.proofs.Common.{◌≡◌, map, take, filter}
use Rattle.serde_json.specs.View.{view}
use Rattle.it_space.specs.Answers.{is_nonzero_weight}
use Rattle.it_certificate.specs.Values.{pair_value}
use Rattle.it_certificate.proofs.values.weights.Given as goal

abbrev pub invariant-loop-weight : goal.invariant-loop-weight
invariant-loop-weight l = map view l.values.items ≡ map pair_value (filter is_nonzero_weight (take l.weight-index l.weights))
