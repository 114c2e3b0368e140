use Rattle.std.proofs.Common.{◌≡◌, ◌++◌, drop, map, neg_ℤ}
use Rattle.it_best.proofs.numbers.negated_values.Given as goal

abbrev pub invariant-loop-value : goal.invariant-loop-value
invariant-loop-value l = l.negated.items ++ map neg_ℤ (drop l.value-index l.values) ≡ map neg_ℤ l.values
