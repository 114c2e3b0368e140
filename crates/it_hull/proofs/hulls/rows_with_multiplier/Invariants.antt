use Rattle.std.proofs.Common.{◌≡◌, ◌++◌, drop, map}
use Rattle.std.specs.List.{AllWithin}
use Rattle.it_space.specs.Rows.{ValueFits, point_of}
use Rattle.it_hull.specs.Hulls.{with_multiplier}
use Rattle.it_hull.proofs.hulls.rows_with_multiplier.Given as goal

abbrev pub invariant-loop-row : goal.invariant-loop-row
invariant-loop-row l = (l.list.items ++ map (with_multiplier l.at (point_of l.ray)) (drop l.row-index l.rows)
    ≡ map (with_multiplier l.at (point_of l.ray)) l.rows)
    × AllWithin (λ row. ValueFits row (point_of l.ray)) l.rows 0 l.row-index
