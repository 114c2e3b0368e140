use Rattle.std.proofs.Common.{◌≡◌, ℕ, ◌<◌, true, [], slice_index_or}
use Rattle.it_rational.specs.Rational.{sign_least}
use Rattle.it_space.specs.Rows.{value}
use Rattle.it_space.specs.Sums.{number_at}
use Rattle.it_engine.proofs.choice.entering_column.Given as goal

abbrev pub invariant-loop-j : goal.invariant-loop-j
invariant-loop-j l = (k : ℕ) → k < l.j → sign_least (value (slice_index_or l.columns k []) (number_at l.cost.numbers)) ≡ true
