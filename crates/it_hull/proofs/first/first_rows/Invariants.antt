use Rattle.std.proofs.Common.{◌≡◌, ◌++◌, drop}
use Rattle.it_hull.specs.Hulls.{first_rows}
use Rattle.it_hull.proofs.first.first_rows.Given as goal

abbrev pub invariant-loop-at : goal.invariant-loop-at
invariant-loop-at l = l.rows.items ++ first_rows (drop l.at-index l.kept) ≡ first_rows l.kept
