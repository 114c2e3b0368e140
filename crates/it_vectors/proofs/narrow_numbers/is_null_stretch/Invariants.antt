use Rattle.std.proofs.Common.{◌≡◌, ℕ, ◌<◌, ◌≤◌, pos}
use Rattle.std.specs.Bool.{OnTrue}
use Rattle.it_space.specs.Sums.{number_at}
use Rattle.it_vectors.proofs.narrow_numbers.is_null_stretch.Given as goal

abbrev pub invariant-loop-k : goal.invariant-loop-k
invariant-loop-k l = OnTrue l.all ((k : ℕ) → l.from ≤ k → k < l.k → number_at l.row k ≡ pos 0)
