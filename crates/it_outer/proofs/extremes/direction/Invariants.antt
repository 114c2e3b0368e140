use Rattle.std.proofs.Common.{◌≡◌, ◌++◌, drop}
use Rattle.std.specs.List.{AllWithin, flat_map}
use Rattle.it_number.specs.Limit.{IsWithin}
use Rattle.it_space.specs.Rows.{point_of, single_term}
use Rattle.it_outer.proofs.extremes.direction.Given as goal

abbrev pub invariant-loop-at : goal.invariant-loop-at
invariant-loop-at l = record {
  terms : l.terms.items ++ flat_map (λ c. single_term c (point_of l.point c)) (drop l.at-index l.kept)
      ≡ flat_map (λ c. single_term c (point_of l.point c)) l.kept;
  within : AllWithin (λ c. IsWithin (point_of l.point c)) l.kept 0 l.at-index;
}
