use Rattle.std.proofs.Common.{◌≡◌, ◌++◌, drop}
use Rattle.std.specs.List.{AllWithin}
use Rattle.it_space.specs.Rows.{ValueFits, point_of}
use Rattle.it_outer.specs.Extremes.{tight_at}
use Rattle.it_outer.proofs.extremes.tight_at.Given as goal

abbrev pub invariant-loop-row : goal.invariant-loop-row
invariant-loop-row l = record {
  tight : l.tight.items ++ tight_at (drop l.row-index l.rows) l.ray ≡ tight_at l.rows l.ray;
  fit : AllWithin (λ row. ValueFits row (point_of l.ray)) l.rows 0 l.row-index;
}
