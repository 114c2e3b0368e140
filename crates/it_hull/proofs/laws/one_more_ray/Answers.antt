use Rattle.it_hull.proofs.RayLemmas.{one_more_ray, one_ray_end}
use Rattle.it_hull.proofs.laws.one_more_ray.Goals as goal

pub returns : goal.returns
returns c = record { hull = one_more_ray; end = one_ray_end }
