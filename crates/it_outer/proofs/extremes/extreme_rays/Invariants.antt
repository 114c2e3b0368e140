use Rattle.std.proofs.Common.{◌≡◌, drop, filter, length, All}
use Rattle.it_space.specs.Spaces.{size_of}
use Rattle.it_outer.specs.Extremes.{extreme_rays, is_extreme, ordered_after}
use Rattle.it_outer.proofs.extremes.extreme_rays.Given as goal

abbrev pub invariant-loop-i : goal.invariant-loop-i
invariant-loop-i l = record {
  ordered : ordered_after l.kept l.ordered.items (filter (is_extreme l.rows l.rays) (drop l.i l.rays)) ≡ extreme_rays l.kept l.rows l.rays;
  sizes : All (λ p. length p ≡ size_of l.space) l.ordered.items;
}
