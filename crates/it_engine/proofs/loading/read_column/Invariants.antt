use Rattle.std.proofs.Common.{[], slice_index_or}
use Rattle.it_engine.proofs.ColumnSteps.{IsColumnUnderWay}
use Rattle.it_engine.proofs.loading.read_column.Given as goal

abbrev pub invariant-loop-i : goal.invariant-loop-i
invariant-loop-i l = IsColumnUnderWay l.coordinates l.target (slice_index_or l.generators l.j []) l.i l.column
