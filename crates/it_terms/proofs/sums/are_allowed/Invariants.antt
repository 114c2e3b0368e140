use Rattle.std.proofs.Common.{All, map, take}
use Rattle.it_polymatroid.specs.Certificates.{IsAllowed}
use Rattle.it_elemental.specs.Generators.{forms_of, of_constraint}
use Rattle.it_terms.proofs.sums.are_allowed.Given as goal

abbrev pub invariant-loop-weight : goal.invariant-loop-weight
invariant-loop-weight l = All (IsAllowed (forms_of (map of_constraint l.constraints))) (take l.weight-index l.weights)
