use Rattle.std.proofs.Common.{◌≡◌, ◌++◌, drop, map}
use Rattle.std.specs.List.{AllWithin}
use Rattle.it_hull.specs.Rays.{ValuesFit}
use Rattle.it_outer.specs.Extremes.{tight_at}
use Rattle.it_outer.specs.Rounds.{lists_of}
use Rattle.it_outer.proofs.extremes.tight_lists.Given as goal

abbrev pub invariant-loop-ray : goal.invariant-loop-ray
invariant-loop-ray l = record {
  lists : lists_of l.lists.items ++ map (tight_at l.rows) (drop l.ray-index l.rays) ≡ map (tight_at l.rows) l.rays;
  fit : AllWithin (λ ray. ValuesFit ray l.rows) l.rays 0 l.ray-index;
}
