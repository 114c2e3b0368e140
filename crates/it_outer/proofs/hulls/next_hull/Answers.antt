use Rattle.it_outer.specs.Rounds.{search_of}
use Rattle.it_outer.proofs.HullLemmas.{few_next, hull_lacks, next_ends, next_system, ray_of_hull, region_next, region_rays, spare_is_rate, too_many_ends, too_wide_ends, under_constants}
use Rattle.it_outer.proofs.hulls.next_hull.Goals as goal

pub with_ray-requires : goal.with_ray-requires
with_ray-requires c = let s = search_of c.args.frame.now in record {
  system = c.requires.hull.system;
  rate = spare_is_rate s c.requires.frame.search c.args.hull.now c.requires.hull;
  free = hull_lacks s c.requires.frame.search c.args.hull.now c.requires.hull;
  ray = ray_of_hull s c.requires.frame.search c.args.hull.now c.requires.hull c.args.ray.now c.requires.ray;
}

pub reduce-requires : goal.reduce-requires
reduce-requires c = let s = search_of c.args.frame.now in record {
  system = under_constants s c.requires.frame.search c.args.hull.now c.requires.hull c.args.ray.now c.in-Region.next
      c.args.frame.now.constants c.requires.frame.constants
      (region_next s c.requires.frame.search c.args.hull.now c.requires.hull c.args.ray.now c.in_ok-next.field-0 c.in-Region.next
      c.in-Region.is c.in_ok-next.ensures.hull);
  few_rows = few_next s c.requires.frame.search c.args.hull.now c.requires.hull c.args.ray.now c.in-Region.next.rows.items
      (region_rays s c.requires.frame.search c.args.hull.now c.requires.hull c.args.ray.now c.in_ok-next.field-0 c.in-Region.next
      c.in-Region.is c.in_ok-next.ensures.ends);
}

pub returns-in_ok-system-in-Region : goal.returns-in_ok-system-in-Region
returns-in_ok-system-in-Region c = let s = search_of c.args.frame.now in record {
  ends = next_ends s c.requires.frame.search c.args.hull.now c.requires.hull c.args.ray.now c.in-Region.next c.in_ok-system-in-Region.system
      c.args.frame.now.constants c.in_ok-reduced-in-Region.reduced c.requires.frame.constants
      (region_rays s c.requires.frame.search c.args.hull.now c.requires.hull c.args.ray.now c.in_ok-next.field-0 c.in-Region.next
      c.in-Region.is c.in_ok-next.ensures.ends) c.in_ok-reduced-in-Region.ensures.reduces c.in_ok-system-in-Region.ensures.rows;
  hull = next_system s c.requires.frame.search c.args.hull.now c.requires.hull c.args.ray.now c.in-Region.next
      c.in_ok-system-in-Region.system c.args.frame.now.constants c.in_ok-reduced-in-Region.reduced
      (region_next s c.requires.frame.search c.args.hull.now c.requires.hull c.args.ray.now c.in_ok-next.field-0 c.in-Region.next
      c.in-Region.is c.in_ok-next.ensures.hull) c.in_ok-reduced-in-Region.ensures.reduces
      c.in_ok-system-in-Region.ensures.space c.in_ok-system-in-Region.ensures.rows;
}

pub returns-in-Rows-clause-ends : goal.returns-in-Rows-clause-ends
returns-in-Rows-clause-ends c = too_many_ends (search_of c.args.frame.now) c.requires.frame.search c.args.hull.now c.requires.hull
    c.args.ray.now c.in_ok-next.field-0 _ c.in-Rows.is c.in_ok-next.ensures.ends

pub returns-in-Wide-clause-ends : goal.returns-in-Wide-clause-ends
returns-in-Wide-clause-ends c = too_wide_ends (search_of c.args.frame.now) c.requires.frame.search c.args.hull.now c.requires.hull
    c.args.ray.now c.in_ok-next.field-0 _ c.in-Wide.is c.in_ok-next.ensures.ends
