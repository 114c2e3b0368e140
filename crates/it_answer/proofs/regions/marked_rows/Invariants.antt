use Rattle.std.proofs.Common.{◌≡◌, ◌++◌, map}
use Rattle.it_redundant.specs.Reduction.{need_view}
use Rattle.it_answer.specs.DueEliminations.{marked_rows}
use Rattle.it_answer.proofs.regions.marked_rows.Given as goal

abbrev pub invariant-loop-row : goal.invariant-loop-row
invariant-loop-row l = l.marked.items ++ marked_rows (map (λ k. (k.0, need_view k.1)) l.row-iterator.rest.items)
    ≡ marked_rows (map (λ k. (k.0, need_view k.1)) l.fn.kept.items)
