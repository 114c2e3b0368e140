use Rattle.std.proofs.Common.{◌≡◌, ℕ, ◌<◌, false, length, not, slice_index_or}
use Rattle.it_rational.specs.Rational.{is_at_least_zero, integer}
use Rattle.it_space.specs.Rows.{coefficient}
use Rattle.it_tableau.proofs.start.negations.Given as goal

abbrev pub invariant-loop-k : goal.invariant-loop-k
invariant-loop-k l = record {
  count : length l.negated.items ≡ l.k;
  value : (k : ℕ) → k < l.k → slice_index_or l.negated.items k false
      ≡ not (is_at_least_zero (integer (coefficient l.target (slice_index_or l.coordinates k 0))));
}
