use Rattle.std.proofs.Common.{rules, ℕ, ◌<◌, ℤ, pos, FitsSigned, to_z, get_or, length, to_z-of_z, arith}
use Rattle.std.proofs.lemmas.List.{get_or_default}
use Rattle.it_space.specs.Rows.{Terms, point_of}
use Rattle.it_space.proofs.ValueSteps.{under_way-more, under_way-stops}
use Rattle.it_space.proofs.values.value.Goals as goal
use mir.Syntax.{w128}

pub returns-in_err-total : goal.returns-in_err-total
returns-in_err-total c =
    let items : Terms = c.terms-coordinate-items.result.now in
    let i : ℕ = c.loop-coordinate.coordinate-index in
    let t : ℕ × ℤ = get_or items i (0, pos 0) in
    let below : i < length items = omega arith in
    let term_fits : FitsSigned w128 t.1 = search rules in
    let value_fits : FitsSigned w128 c.at.result = search rules in
    let wide = simp to_z-of_z at c.in_err-total.ensures in
    let stops = under_way-stops c.args.row.now items (point_of c.args.point.now) i
    (to_z w128 c.loop-coordinate.total-bits) c.at.result t c.terms-coordinate-items.ensures.value below
    (get_or_default items i (0, pos 0) t below) c.at.ensures.value wide c.loop-coordinate.invariant in
    search (rules, stops)

pub loop-coordinate-preserved : goal.loop-coordinate-preserved
loop-coordinate-preserved c =
    let items : Terms = c.terms-coordinate-items.result.now in
    let i : ℕ = c.loop-coordinate.coordinate-index in
    let t : ℕ × ℤ = get_or items i (0, pos 0) in
    let below : i < length items = omega arith in
    let term_fits : FitsSigned w128 t.1 = search rules in
    let value_fits : FitsSigned w128 c.at.result = search rules in
    let sum_fits : FitsSigned w128 c.in_ok-total.total = search rules in
    let step = simp to_z-of_z at c.in_ok-total.ensures in
    rw (to_z-of_z sum_fits) (under_way-more c.args.row.now items (point_of c.args.point.now) i
    (to_z w128 c.loop-coordinate.total-bits) c.in_ok-total.total c.at.result t c.terms-coordinate-items.ensures.value below
    (get_or_default items i (0, pos 0) t below) c.at.ensures.value step.0 step.1 c.loop-coordinate.invariant)
