use Rattle.std.proofs.Common.{◌≡◌, ◌<◌, ◌++◌, ℕ, pos, slice_index_or, take}
use Rattle.it_whole.specs.ColumnTerms.{multiple_of_terms, MultipleFits}
use Rattle.it_whole.proofs.columns.Column.add_multiple.Given as goal

abbrev pub invariant-loop-i : goal.invariant-loop-i
invariant-loop-i l = (l.self ≡ l.initial.self ++ multiple_of_terms l.factor (take l.i l.other))
    × ((k : ℕ) → k < l.i → MultipleFits l.factor (slice_index_or l.other k (0, pos 0)))
