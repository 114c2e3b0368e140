use Rattle.std.proofs.Common.{◌≡◌, ◌++◌, drop, map}
use Rattle.it_space.specs.declared.answers.Mark.TheVariants.{Unsettled}
use Rattle.it_bounds.proofs.marks.unsettled_rows.Given as goal

abbrev pub invariant-loop-row : goal.invariant-loop-row
invariant-loop-row l = l.marked.items ++ map (λ row. (Unsettled, row)) (drop l.row-index l.rows) ≡ map (λ row. (Unsettled, row)) l.rows
