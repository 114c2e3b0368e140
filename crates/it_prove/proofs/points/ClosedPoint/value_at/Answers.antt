use Rattle.std.proofs.Common.{rules, get_or, pos, ap, sym, ◌∙◌, zip, Ok, Err, FitsSigned, to_z-of_z}
use Rattle.std.proofs.lemmas.List.Sorted.{searched}
use Rattle.it_space.specs.Rows.{coefficient}
use Rattle.it_prove.proofs.PointLemmas.{rise_far, zip_at, zip_between}
use Rattle.it_prove.proofs.points.ClosedPoint.value_at.Goals as goal
use mir.Syntax.{w128}

pub returns-in-Ok : goal.returns-in-Ok
returns-in-Ok c =
    let coords = c.self.inside.coordinates.now in
    let values = c.self.inside.values.now in
    let r = c.self.invariant.rise in
    let found = searched coords c.args.place (Ok c.in-Ok.index) c.in-Ok.ensures.position (rise_far 1 r.0 coords r.1) in
    let fits : FitsSigned w128 (get_or values c.in-Ok.index (pos 0)) = search rules in
    rw (to_z-of_z fits) (sym (zip_at 1 r.0 coords values r.1 c.self.invariant.complete c.in-Ok.index found.0) ∙ ap (coefficient (zip coords values)) found.1
    ∙ ap (λ at. coefficient at c.args.place) c.self.view_is)

pub returns-in-Err : goal.returns-in-Err
returns-in-Err c =
    let coords = c.self.inside.coordinates.now in
    let r = c.self.invariant.rise in
    let found = searched coords c.args.place (Err c.in-Err.field-0) c.in-Err.ensures.position (rise_far 1 r.0 coords r.1) in
    sym (zip_between coords c.self.inside.values.now c.args.place c.in-Err.field-0 found.1 found.2)
    ∙ ap (λ at. coefficient at c.args.place) c.self.view_is
