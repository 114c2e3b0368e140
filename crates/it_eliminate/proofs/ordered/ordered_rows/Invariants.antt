use Rattle.std.proofs.Common.{◌≡◌, []}
use Rattle.it_space.specs.Rows.{IsCanonical}
use Rattle.it_eliminate.proofs.ordered.ordered_rows.Given as goal
use Rattle.it_eliminate.specs.Elimination.{with_lowest_rows}
use Rattle.it_eliminate.specs.Gathering.{rows_of}
use Rattle.std.specs.List.{AllByRecursion as Every}

abbrev pub invariant-loop-row : goal.invariant-loop-row
invariant-loop-row l = (with_lowest_rows (rows_of l.ordered.keys) l.row-iterator.rest.items ≡ with_lowest_rows [] l.fn.rows.items)
    × Every IsCanonical (rows_of l.ordered.keys)
