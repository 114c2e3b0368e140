use Rattle.std.proofs.Common.{◌≡◌, ℕ, ◌<◌, ◌≤◌, take, unsigned_abs}
use Rattle.it_space.specs.Sums.{number_at}
use Rattle.it_whole.proofs.narrow_rows.NarrowRow.from_numbers.Given as goal

abbrev pub invariant-loop-k : goal.invariant-loop-k
invariant-loop-k l = record {
  same : l.short.items ≡ take l.k l.numbers;
  small : (j : ℕ) → j < l.k → unsigned_abs (number_at l.numbers j) ≤ l.limit;
}
