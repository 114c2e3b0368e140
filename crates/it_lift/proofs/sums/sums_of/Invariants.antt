use Rattle.std.proofs.Common.{◌≡◌, ℕ, take, length}
use Rattle.it_space.specs.Rows.{coefficient}
use Rattle.it_space.specs.Sums.{number_at}
use Rattle.it_lift.proofs.sums.sums_of.Given as goal

abbrev pub invariant-loop-index : goal.invariant-loop-index
invariant-loop-index l = (length l.sums ≡ l.count) × ((i : ℕ) → number_at l.sums i ≡ coefficient (take l.index-index l.weights) i)
