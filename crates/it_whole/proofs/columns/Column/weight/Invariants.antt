use Rattle.std.proofs.Common.{◌≡◌, ◌+◌, ◌<◌, ◌^◌, drop}
use Rattle.it_space.specs.Rows.{row_mass}
use Rattle.it_whole.proofs.columns.Column.weight.Given as goal

abbrev pub invariant-loop-i : goal.invariant-loop-i
invariant-loop-i l = (l.sum + row_mass (drop l.i l.self) ≡ row_mass l.self) × (l.sum < 2 ^ 63)
