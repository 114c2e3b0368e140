use Rattle.std.proofs.Common.{rules, ◌^◌, ◌<◌, ℕ, ℤ, pos, List, [], ◌∷◌, not, refl, arith}
use Rattle.std.proofs.lemmas.Nat.{and_le_r}
use Rattle.it_space.specs.Sets.{IsInside}
use Rattle.it_elemental.specs.Expansions.{members, mutual_expansion, conditional_expansion}
use Rattle.it_closure.proofs.Insides.{inside_le}
use Rattle.it_lift.specs.Lifts.{each_weight, set_difference, turn_moves, signed_value}
use Rattle.it_lift.proofs.SumSteps.{first_stops, second_stops, third_stops, all_added, turn_parts, less_found}
use Rattle.it_lift.proofs.Differences.{less_apart, less_less, less_meet, less_meet_right}
use Rattle.it_lift.proofs.moves.add_turn.Goals as goal
use Rattle.it_space.proofs.MixLemmas.{where_fault}

from_below : (n f t : ℕ) → t < 2 ^ n → IsInside f t → f < 2 ^ n
from_below n f t h i = omega (arith, inside_le f t i)

pub add_mutual-requires-clause-left_apart_from_right : goal.add_mutual-requires-clause-left_apart_from_right
add_mutual-requires-clause-left_apart_from_right c =
    rw (less_found c.args.by.to c.args.set c.minus.result c.minus.ensures.rest, less_found c.args.set c.args.by.to c.minus-2.result c.minus-2.ensures.rest)
    (less_less c.args.n c.args.by.to c.args.set c.requires.to_below c.requires.below)

pub add_mutual-requires-clause-left_apart_from_given : goal.add_mutual-requires-clause-left_apart_from_given
add_mutual-requires-clause-left_apart_from_given c =
    rw (less_found c.args.by.to c.args.set c.minus.result c.minus.ensures.rest, c.meet-shared.ensures)
    (less_meet_right c.args.n c.args.by.to c.args.set c.requires.to_below c.requires.below)

pub add_mutual-requires-clause-right_apart_from_given : goal.add_mutual-requires-clause-right_apart_from_given
add_mutual-requires-clause-right_apart_from_given c =
    rw (less_found c.args.set c.args.by.to c.minus-2.result c.minus-2.ensures.rest, c.meet-shared.ensures)
    (less_meet c.args.n c.args.set c.args.by.to c.requires.below c.requires.to_below)

pub add_conditional-requires-clause-disjoint : goal.add_conditional-requires-clause-disjoint
add_conditional-requires-clause-disjoint c =
    let low : c.meet-shared.result < 2 ^ c.args.n = rw c.meet-shared.ensures (omega (arith, and_le_r c.args.set c.args.by.to, c.requires.to_below)) in
    rw (less_found c.meet-shared.result c.args.by.from c.minus-3.result c.minus-3.ensures.rest)
    (less_apart c.args.n c.meet-shared.result c.args.by.from low (from_below c.args.n c.args.by.from c.args.by.to c.requires.to_below c.requires.inside))

abbrev mutual_part : ℕ → ℤ → ℕ → ℕ → ℕ → List (ℕ × ℤ)
mutual_part n x u v w = each_weight n x (mutual_expansion (members n u) (members n v) w)

abbrev conditional_part : ℕ → ℤ → ℕ → ℕ → List (ℕ × ℤ)
conditional_part n x z k = each_weight n x (conditional_expansion n (members n z) k)

pub returns-in_err-add_mutual-clause-wide : goal.returns-in_err-add_mutual-clause-wide
returns-in_err-add_mutual-clause-wide c =
    let n : ℕ = c.args.n in
    let x : ℤ = pos c.args.amount in
    let u : ℕ = c.minus.result in
    let v : ℕ = c.minus-2.result in
    let w : ℕ = c.meet-shared.result in
    let z : ℕ = set_difference w c.args.by.from in
    let parts = turn_parts n x c.args.set c.args.by u v w z (less_found c.args.by.to c.args.set u c.minus.ensures.rest)
    (less_found c.args.set c.args.by.to v c.minus-2.ensures.rest) c.meet-shared.ensures refl in
    let stops = where_fault c.in_err-add_mutual.ensures.wide
    (first_stops c.args.sums.now (mutual_part n x u v w) (conditional_part n x z c.args.by.from)
    ((c.args.by.generator, signed_value (not c.args.by.negated) x) ∷ []) (turn_moves n x (c.args.set, c.args.by)) parts) in
    search (rules, stops)

pub returns-in_err-add_conditional-clause-wide : goal.returns-in_err-add_conditional-clause-wide
returns-in_err-add_conditional-clause-wide c =
    let n : ℕ = c.args.n in
    let x : ℤ = pos c.args.amount in
    let u : ℕ = c.minus.result in
    let v : ℕ = c.minus-2.result in
    let w : ℕ = c.meet-shared.result in
    let z : ℕ = c.minus-3.result in
    let parts = turn_parts n x c.args.set c.args.by u v w z (less_found c.args.by.to c.args.set u c.minus.ensures.rest)
    (less_found c.args.set c.args.by.to v c.minus-2.ensures.rest) c.meet-shared.ensures
    (less_found w c.args.by.from z c.minus-3.ensures.rest) in
    let stops = where_fault c.in_err-add_conditional.ensures.wide
    (second_stops c.args.sums.now c.add_mutual.new.sums (mutual_part n x u v w) (conditional_part n x z c.args.by.from)
    ((c.args.by.generator, signed_value (not c.args.by.negated) x) ∷ [])
    (turn_moves n x (c.args.set, c.args.by)) parts c.in_ok-add_mutual.ensures.added) in
    search (rules, stops)

pub returns-in_err-add-clause-wide : goal.returns-in_err-add-clause-wide
returns-in_err-add-clause-wide c =
    let n : ℕ = c.args.n in
    let x : ℤ = pos c.args.amount in
    let u : ℕ = c.minus.result in
    let v : ℕ = c.minus-2.result in
    let w : ℕ = c.meet-shared.result in
    let z : ℕ = c.minus-3.result in
    let parts = turn_parts n x c.args.set c.args.by u v w z (less_found c.args.by.to c.args.set u c.minus.ensures.rest)
    (less_found c.args.set c.args.by.to v c.minus-2.ensures.rest) c.meet-shared.ensures
    (less_found w c.args.by.from z c.minus-3.ensures.rest) in
    let stops = third_stops c.args.sums.now c.add_mutual.new.sums c.add_conditional.new.sums (mutual_part n x u v w)
    (conditional_part n x z c.args.by.from) ((c.args.by.generator, signed_value (not c.args.by.negated) x) ∷ [])
    (turn_moves n x (c.args.set, c.args.by)) parts c.in_ok-add_mutual.ensures.added c.in_ok-add_conditional.ensures.added c.in_err-add.ensures.wide in
    search (rules, stops)

pub returns-clause-added : goal.returns-clause-added
returns-clause-added c =
    let n : ℕ = c.args.n in
    let x : ℤ = pos c.args.amount in
    let u : ℕ = c.minus.result in
    let v : ℕ = c.minus-2.result in
    let w : ℕ = c.meet-shared.result in
    let z : ℕ = c.minus-3.result in
    let parts = turn_parts n x c.args.set c.args.by u v w z (less_found c.args.by.to c.args.set u c.minus.ensures.rest)
    (less_found c.args.set c.args.by.to v c.minus-2.ensures.rest) c.meet-shared.ensures
    (less_found w c.args.by.from z c.minus-3.ensures.rest) in
    all_added c.args.sums.now c.add_mutual.new.sums c.add_conditional.new.sums c.add.new.self (mutual_part n x u v w)
    (conditional_part n x z c.args.by.from) ((c.args.by.generator, signed_value (not c.args.by.negated) x) ∷ [])
    (turn_moves n x (c.args.set, c.args.by)) parts c.in_ok-add_mutual.ensures.added c.in_ok-add_conditional.ensures.added c.in_ok-add.ensures.added
