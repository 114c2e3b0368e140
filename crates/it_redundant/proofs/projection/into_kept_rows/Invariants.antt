use Rattle.std.proofs.Common.{◌≡◌, ◌++◌, map}
use Rattle.it_redundant.specs.Reduction.{kept_rows, need_view}
use Rattle.it_redundant.proofs.projection.into_kept_rows.Given as goal

abbrev pub invariant-loop-row : goal.invariant-loop-row
invariant-loop-row l = l.rows.items ++ kept_rows (map (λ k. (k.0, need_view k.1)) l.row-iterator.rest.items)
    ≡ kept_rows (map (λ k. (k.0, need_view k.1)) l.fn.reduced.kept.items)
