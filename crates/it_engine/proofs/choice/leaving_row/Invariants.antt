use Rattle.std.proofs.Common.{◌≡◌, length}
use Rattle.it_engine.specs.Choosing.{basic_column_at, best_row_below, right_side_of}
use Rattle.it_space.specs.Sums.{number_at}
use Rattle.it_engine.proofs.choice.leaving_row.Given as goal

abbrev pub invariant-loop-i : goal.invariant-loop-i
invariant-loop-i l = l.best ≡ best_row_below (number_at l.entries) (right_side_of (length l.basis) l.rows) (basic_column_at l.basis) l.i
