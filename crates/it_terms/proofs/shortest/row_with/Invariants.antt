use Rattle.std.proofs.Common.{◌≡◌, ◌≤◌, ◌+◌, ◌*◌, ◌^◌, length}
use Rattle.it_space.specs.Spaces.{most_coordinates}
use Rattle.it_demand.specs.Coefficients.{mass}
use Rattle.it_terms.proofs.shortest.row_with.Given as goal

abbrev pub invariant-loop-term : goal.invariant-loop-term
invariant-loop-term l = (length l.coefficients ≡ l.places) × (l.places ≤ most_coordinates + 1) × (mass l.coefficients ≤ 2 ^ 64 * l.term-index)
