use Rattle.std.proofs.Common.{subst, map, []}
use Rattle.it_space.specs.Answers.{certificate_view}
use Rattle.it_outer.specs.Outer.{Bounds, outer_view}
use Rattle.it_outer.specs.Rounds.{search_of}
use Rattle.it_outer.specs.Search.{PassWithEnds}
use Rattle.it_outer.specs.declared.types.Outer.{Outer}
use Rattle.it_outer.proofs.BoundLemmas.{bounds_over, bounds_rays}
use Rattle.it_outer.proofs.search.second.Goals as goal

pub second_pass-requires : goal.second_pass-requires
second_pass-requires c =
    let first : PassWithEnds (search_of c.args.frame.now) [] (Bounds c.in-Bounds.bounds.hull.rows.items
    (map certificate_view c.in-Bounds.bounds.proofs.items) c.in-Bounds.bounds.rays.items) =
    subst (λ (o : Outer). PassWithEnds (search_of c.args.frame.now) [] (outer_view o)) c.in-Bounds.is c.requires.first in record {
      frame = c.requires.frame;
      outcomes = c.requires.outcomes;
      rows = bounds_over (search_of c.args.frame.now) c.requires.frame.search c.in-Bounds.bounds.hull.rows.items
          (map certificate_view c.in-Bounds.bounds.proofs.items) c.in-Bounds.bounds.rays.items first;
      rays = bounds_rays (search_of c.args.frame.now) c.requires.frame.search c.in-Bounds.bounds.hull.rows.items
          (map certificate_view c.in-Bounds.bounds.proofs.items) c.in-Bounds.bounds.rays.items first;
    }
