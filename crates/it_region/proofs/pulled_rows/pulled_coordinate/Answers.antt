use Rattle.std.proofs.Common.{◌<◌, ◌≤◌, ◌+◌, ◌-◌, ◌^◌, ℕ, arith, sym, ap, ap₂, ◌∙◌, lit<}
use Rattle.it_polymatroid.specs.Substitutions.{union_of_images}
use Rattle.it_space.proofs.SpaceLemmas.{shift_is_power}
use Rattle.it_region.proofs.PullingLemmas.{coordinate_of_set, coordinate_above_sets, image_up_to}
use Rattle.it_region.proofs.pulled_rows.pulled_coordinate.Goals as goal

pub returns-then-coordinate-count-clause-value : goal.returns-then-coordinate-count-clause-value
returns-then-coordinate-count-clause-value c =
    let m : ℕ = c.args.pair.now.space.variables in
    let below : c.args.coordinate < 2 ^ m = omega (arith, c.if-coordinate-count.true, shift_is_power m 4294967296 c.requires.pair.space.few (lit< tt)) in
    c.number.ensures ∙ c.union_of_images.ensures ∙ ap (union_of_images c.args.sets.now) c.from_number.ensures
    ∙ sym (coordinate_of_set c.args.pair.now.first.space.variables m c.args.sets.now c.args.coordinate below)

pub returns-then-coordinate-count-clause-below : goal.returns-then-coordinate-count-clause-below
returns-then-coordinate-count-clause-below c = omega (
  arith,
  c.number.ensures,
  c.union_of_images.ensures,
  image_up_to
      c.args.pair.now.first.space c.args.sets.now c.from_number.result c.requires.sets.within,
)

pub returns-else-coordinate-count-clause-value : goal.returns-else-coordinate-count-clause-value
returns-else-coordinate-count-clause-value c =
    let n : ℕ = c.args.pair.now.first.space.variables in
    let m : ℕ = c.args.pair.now.space.variables in
    let above : 2 ^ m ≤ c.args.coordinate = omega (arith, c.if-coordinate-count.false, shift_is_power m 4294967296 c.requires.pair.space.few (lit< tt)) in
    rw c.space.ensures.value (ap₂ (λ (x y : ℕ). x + (c.args.coordinate - y))
    (shift_is_power n 18446744073709551616 c.requires.pair.problem.space.few (lit< tt))
    (shift_is_power m 4294967296 c.requires.pair.space.few (lit< tt))
    ∙ sym (coordinate_above_sets n m c.args.sets.now c.args.coordinate above))
