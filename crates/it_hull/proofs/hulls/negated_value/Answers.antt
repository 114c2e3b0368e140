use Rattle.std.proofs.Common.{rules, ◌≡◌, FitsSigned, to_z-of_z}
use Rattle.it_space.specs.Rows.{ValueFits, point_of, value}
use Rattle.it_hull.proofs.ValueLemmas.{negated_fits, value_within}
use Rattle.it_hull.proofs.hulls.negated_value.Goals as goal
use mir.Syntax.{w128}

pub returns-clause-value : goal.returns-clause-value
returns-clause-value c =
    let fits : ValueFits c.args.row.now (point_of c.args.ray.now) = search rules in
    let is : c.in_ok-at_ray.at_ray ≡ value c.args.row.now (point_of c.args.ray.now) = search rules in
    let short : FitsSigned w128 c.in_ok-at_ray.at_ray = search rules in
    negated_fits (value c.args.row.now (point_of c.args.ray.now)) c.in_ok-at_ray.at_ray
    (ValueFits c.args.row.now (point_of c.args.ray.now)) c.difference.result is fits
    (value_within c.args.row.now (point_of c.args.ray.now) fits) (rw (to_z-of_z short) at c.difference.ensures)
