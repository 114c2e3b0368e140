use Rattle.std.proofs.Common.{◌≡◌, ◌++◌, drop}
use Rattle.std.specs.List.{flat_map}
use Rattle.it_bounds.specs.Lines.{ray_line}
use Rattle.it_bounds.proofs.lines.write_rays.Given as goal

abbrev pub invariant-loop-ray : goal.invariant-loop-ray
invariant-loop-ray l = l.out.items ++ flat_map (ray_line l.posed.number l.names l.kept.items) (drop l.ray-index l.rays)
    ≡ l.initial.out.items ++ flat_map (ray_line l.posed.number l.names l.kept.items) l.rays
