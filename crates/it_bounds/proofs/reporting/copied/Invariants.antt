use Rattle.std.proofs.Common.{◌≡◌, map, take}
use Rattle.it_space.specs.Answers.{certificate_view}
use Rattle.it_bounds.proofs.reporting.copied.Given as goal

abbrev pub invariant-loop-proof : goal.invariant-loop-proof
invariant-loop-proof l = map certificate_view l.own.items ≡ map certificate_view (take l.proof-index l.proofs)
