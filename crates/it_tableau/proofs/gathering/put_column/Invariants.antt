use Rattle.std.proofs.Common.{[], slice_index_or}
use Rattle.it_tableau.specs.StartRows.{start_number}
use Rattle.it_tableau.proofs.GatherSteps.{IsColumnUnderWay}
use Rattle.it_tableau.proofs.gathering.put_column.Given as goal

abbrev pub invariant-loop-i : goal.invariant-loop-i
invariant-loop-i l = IsColumnUnderWay l.coordinates (λ k. start_number l.coordinates l.columns l.target k l.j)
    (slice_index_or l.columns l.j []) l.j l.fn.lists.items l.i l.lists.items
