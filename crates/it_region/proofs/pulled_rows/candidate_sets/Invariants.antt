use Rattle.std.proofs.Common.{◌≡◌, ◌++◌, take, drop}
use Rattle.it_region.specs.Pairs.{candidate_sets}
use Rattle.it_region.proofs.pulled_rows.candidate_sets.Given as goal

abbrev pub invariant-loop-part : goal.invariant-loop-part
invariant-loop-part l = l.sets.items ++ drop l.part-index (take l.candidate.count l.candidate.parts) ≡ candidate_sets l.pair l.candidate
