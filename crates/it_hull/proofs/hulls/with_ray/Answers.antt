use Rattle.std.proofs.Common.{rules, ◌≡◌, ◌^◌, refl, inl}
use Rattle.it_problems.specs.declared.problems.System.{System}
use Rattle.it_space.specs.Rows.{point_of}
use Rattle.it_eliminate.specs.Views.{eliminated_view}
use Rattle.it_hull.specs.Hulls.{rows_with_multiplier}
use Rattle.it_hull.specs.Rays.{RayEnds, ValuesFit}
use Rattle.it_hull.proofs.RayLemmas.{adds_ray, multiplier_rows, ray_ends}
use Rattle.it_hull.proofs.hulls.with_ray.Goals as goal

pub step-requires-clause-system : goal.step-requires-clause-system
step-requires-clause-system c =
    let are : c.in-Ok.list.items ≡ rows_with_multiplier c.coordinate-at.result (point_of c.args.ray.now) c.args.hull.now.rows.items = search rules in record {
      space = c.requires.system.space;
      rows = multiplier_rows c.args.hull.now c.args.ray.now c.args.rate c.coordinate-at.result c.in-Ok.list.items c.requires.system
          c.requires.rate c.coordinate-at.ensures are;
    }

pub returns-in_ok-end-in-Ok : goal.returns-in_ok-end-in-Ok
returns-in_ok-end-in-Ok c =
    let are : c.in-Ok.list.items ≡ rows_with_multiplier c.coordinate-at.result (point_of c.args.ray.now) c.args.hull.now.rows.items = search rules in
    let fit : ValuesFit c.args.ray.now c.args.hull.now.rows.items = search rules in
    let system : System = record { space = c.args.hull.now.space; rows = c.in-Ok.list } in
    let ends : RayEnds (2 ^ c.args.hull.now.space.variables) c.args.rows c.args.ray.now c.args.rate c.args.hull.now.rows.items
    (eliminated_view c.in_ok-end-in-Ok.end) =
    ray_ends (2 ^ c.args.hull.now.space.variables) c.args.rows c.args.ray.now c.args.rate c.coordinate-at.result c.args.hull.now.rows.items
    c.in-Ok.list.items (eliminated_view c.in_ok-end-in-Ok.end)
    fit c.coordinate-at.ensures are c.in_ok-end-in-Ok.ensures.ends in record {
      ends = ends;
      hull = adds_ray c.args.hull.now system c.args.ray.now c.args.rows c.args.rate c.in_ok-end-in-Ok.end refl ends c.in_ok-end-in-Ok.ensures.region;
    }

pub returns-in-Err-Wide-clause-ends : goal.returns-in-Err-Wide-clause-ends
returns-in-Err-Wide-clause-ends c =
    let wide : ¬ (ValuesFit c.args.ray.now c.args.hull.now.rows.items) = search rules in inl (wide, refl)
