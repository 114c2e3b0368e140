use Rattle.std.proofs.Common.{rules, ◌≡◌, ◌+◌, ◌<◌, ◌≤◌, ℕ, ℤ, pos, length, get_or, replicate, FitsSigned, to_z-of_z, sym, ap, subst, ◌∙◌, arith}
use Rattle.std.proofs.lemmas.List.{get_or_default}
use Rattle.it_space.specs.Rows.{Terms, IsOver}
use Rattle.it_space.specs.Spaces.{size_of}
use Rattle.it_space.proofs.SpaceLemmas.{few_coordinates}
use Rattle.it_closure.proofs.Placing.{placing-start, collapse_is_wide, went_on, placing-end, place_in, sets_in}
use Rattle.it_closure.proofs.row_places.placed_sums.Goals as goal
use mir.Syntax.{w128}

pub loop-coordinate-init : goal.loop-coordinate-init
loop-coordinate-init c =
    let count : c.size.result + 1 ≡ size_of c.args.dependences.now.space + 1 = ap (λ k. k + 1) (c.size.ensures ∙ ap size_of c.space.ensures.value) in
    placing-start c.args.dependences.now.space.variables c.args.dependences.now.list c.args.row.now (size_of c.args.dependences.now.space + 1) c.in_ok-sums.sums
    (c.in_ok-sums.ensures ∙ ap (λ k. replicate k (pos 0)) count)

pub put-requires : goal.put-requires
put-requires c =
    let items : Terms = c.terms-coordinate-items.result.now in
    let i : ℕ = c.loop-coordinate.coordinate-index in
    let t : ℕ × ℤ = get_or items i (0, pos 0) in
    let below : i < length items = omega arith in
    let last : t.0 ≤ size_of c.args.dependences.now.space = (subst (IsOver (size_of c.args.dependences.now.space))
    (sym c.terms-coordinate-items.ensures.value) c.requires i (0, pos 0) below).1 in
    let in' = place_in c.args.dependences.now t.0 (size_of c.args.dependences.now.space + 1) c.space.ensures.shape
    (sets_in c.args.dependences.now.space) (omega arith) in
    omega (arith, in', c.place.ensures, c.loop-coordinate.invariant.complete)

pub returns-in_err-put-clause-wide : goal.returns-in_err-put-clause-wide
returns-in_err-put-clause-wide c =
    let items : Terms = c.terms-coordinate-items.result.now in
    let i : ℕ = c.loop-coordinate.coordinate-index in
    let t : ℕ × ℤ = get_or items i (0, pos 0) in
    let below : i < length items = omega arith in
    let f : FitsSigned w128 t.1 = search rules in
    let wide = simp to_z-of_z at c.in_err-put.ensures.wide in
    let stops = collapse_is_wide c.args.dependences.now.space.variables c.args.dependences.now.list c.args.row.now items
    (size_of c.args.dependences.now.space + 1) c.loop-coordinate.sums i c.place.result t
    c.terms-coordinate-items.ensures.value below (get_or_default items i (0, pos 0) t below) c.place.ensures wide c.loop-coordinate.invariant in
    search (rules, stops)

pub loop-coordinate-preserved : goal.loop-coordinate-preserved
loop-coordinate-preserved c =
    let items : Terms = c.terms-coordinate-items.result.now in
    let i : ℕ = c.loop-coordinate.coordinate-index in
    let t : ℕ × ℤ = get_or items i (0, pos 0) in
    let below : i < length items = omega arith in
    let f : FitsSigned w128 t.1 = search rules in
    let put = simp to_z-of_z at c.in_ok-put.ensures.put in
    went_on c.args.dependences.now.space.variables c.args.dependences.now.list c.args.row.now items
    (size_of c.args.dependences.now.space + 1) c.loop-coordinate.sums
    c.put.new.sums i c.place.result t c.terms-coordinate-items.ensures.value below
    (get_or_default items i (0, pos 0) t below) c.place.ensures put c.loop-coordinate.invariant

pub returns-clause-placed : goal.returns-clause-placed
returns-clause-placed c = placing-end c.args.dependences.now.space.variables c.args.dependences.now.list c.args.row.now
    (size_of c.args.dependences.now.space + 1) c.loop-coordinate.sums c.loop-coordinate.coordinate-index
    (omega (arith, ap length c.terms-coordinate-items.ensures.value)) c.loop-coordinate.invariant

pub returns-clause-few : goal.returns-clause-few
returns-clause-few c = omega (
  arith,
  c.loop-coordinate.invariant.complete,
  few_coordinates c.args.dependences.now.space c.space.ensures.shape.space,
)
