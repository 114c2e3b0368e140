use Rattle.std.proofs.Common.{◌≡◌, ℕ, ◌<◌, ◌≤◌, pos}
use Rattle.it_space.specs.Sums.{number_at}
use Rattle.it_vectors.proofs.narrow_numbers.past_nulls.Given as goal

abbrev pub invariant-loop-k : goal.invariant-loop-k
invariant-loop-k l = (k : ℕ) → l.from ≤ k → k < l.k → number_at l.row k ≡ pos 0
