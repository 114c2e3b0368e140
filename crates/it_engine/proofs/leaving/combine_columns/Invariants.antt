use Rattle.std.proofs.Common.{◌≡◌}
use Rattle.it_engine.specs.Behind.{after_rows, column_less_moved}
use Rattle.it_engine.proofs.leaving.combine_columns.Given as goal

abbrev pub invariant-loop-k : goal.invariant-loop-k
invariant-loop-k l = l.combined ≡ column_less_moved l.columns l.block.rows.now l.block.basis.now l.block.moved.now l.entries l.multiple
    l.column (after_rows l.block.order.now l.k)
