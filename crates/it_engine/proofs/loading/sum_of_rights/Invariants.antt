use Rattle.std.proofs.Common.{◌≡◌, ◌<◌, ◌^◌}
use Rattle.it_engine.specs.Loading.{right_sum}
use Rattle.it_engine.proofs.loading.sum_of_rights.Given as goal

abbrev pub invariant-loop-k : goal.invariant-loop-k
invariant-loop-k l = (l.sum ≡ right_sum l.coordinates l.target l.k) × (l.sum < 2 ^ 63)
