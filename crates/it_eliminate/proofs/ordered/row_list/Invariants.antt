use Rattle.std.proofs.Common.{◌≡◌, ◌++◌}
use Rattle.it_space.specs.Rows.{IsCanonical}
use Rattle.it_eliminate.proofs.ordered.row_list.Given as goal
use Rattle.it_eliminate.specs.Gathering.{rows_of}
use Rattle.std.specs.List.{AllByRecursion as Every}

abbrev pub invariant-loop-terms : goal.invariant-loop-terms
invariant-loop-terms l = (l.list.items ++ rows_of l.terms-iterator ≡ rows_of l.fn.rows.keys) × Every IsCanonical (rows_of l.terms-iterator)
