use Rattle.std.proofs.Common.{◌≡◌, ℕ, ◌<◌, ◌+◌, ◌+ℤ◌, ◌*ℤ◌, neg_ℤ, length}
use Rattle.it_space.specs.Sums.{number_at}
use Rattle.it_vectors.proofs.narrow_numbers.stretch_less_product.Given as goal

abbrev pub invariant-loop-k : goal.invariant-loop-k
invariant-loop-k l = record {
  size : length l.numbers ≡ 8;
  done : (k : ℕ) → k < l.k → number_at l.numbers k ≡ number_at l.row (l.from + k) +ℤ neg_ℤ (number_at l.by (l.from + k) *ℤ l.b);
}
