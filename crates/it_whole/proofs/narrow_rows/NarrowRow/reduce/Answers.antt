use Rattle.std.proofs.Common.{rules, Bool, true, false, mul-pos, ℕ, ◌*◌, ◌<◌, ◌^◌, ◌≡◌, ◌∙◌, ap, ap₂, sym, subst, FitsSigned, to_z-of_z, w64, length, unsigned_abs, arith}
use Rattle.std.specs.Bool.{OnTrue}
use Rattle.it_number.specs.Gcd.{gcd}
use Rattle.it_number.specs.Division.{int_quotient}
use Rattle.it_vectors.specs.Combinations.{IsCombined}
use Rattle.it_whole.specs.WholeRows.{WholeRowView}
use Rattle.it_whole.proofs.RowSteps.{less_row}
use Rattle.it_whole.proofs.Usable.{factor_some}
use Rattle.it_whole.proofs.NarrowSteps.{combined_usable, multiple_reduced, multiple_usable, room_usable, shortened_reduced}
use Rattle.it_whole.proofs.narrow_rows.NarrowRow.reduce.Goals as goal
use Rattle.it_whole.proofs.narrow_rows.NarrowRow.reduce.Goals.{In-Some, Else-not-combine_to}

-- the factor of the row
factor_is : (c : In-Some) → c.lowest_terms-a.result.0 ≡ int_quotient c.args.pivot (gcd (unsigned_abs c.args.pivot) (unsigned_abs c.args.entry))
factor_is c =
    let fp : FitsSigned w64 c.args.pivot = c.ranges.pivot in
    let fe : FitsSigned w64 c.args.entry = c.ranges.entry in
    simp to_z-of_z at c.lowest_terms-a.ensures.pivot

-- the factor of the leaving row
own_factor_is : (c : In-Some) → c.lowest_terms-a.result.1 ≡ int_quotient c.args.entry (gcd (unsigned_abs c.args.pivot) (unsigned_abs c.args.entry))
own_factor_is c =
    let fp : FitsSigned w64 c.args.pivot = c.ranges.pivot in
    let fe : FitsSigned w64 c.args.entry = c.ranges.entry in
    simp to_z-of_z at c.lowest_terms-a.ensures.entry

-- what represents the denominator
product_is : (c : In-Some) → c.denominator.result * c.unsigned_abs.result ≡ c.args.self.now.denominator * unsigned_abs c.lowest_terms-a.result.0
product_is c =
    let fa : FitsSigned w64 c.lowest_terms-a.result.0 = search rules in
    ap₂ (λ x y. x * y) (c.denominator.ensures ∙ ap (λ (r : WholeRowView). r.denominator) c.if-subtract_multiple.ensures.kept)
    (c.unsigned_abs.ensures.value ∙ ap unsigned_abs (to_z-of_z fa))

denominator_is : (c : In-Some) → c.in-Some.denominator ≡ c.args.self.now.denominator * unsigned_abs c.lowest_terms-a.result.0
denominator_is c = c.in-Some.ensures.1 ∙ product_is c

denominator_is_low : (c : In-Some) → c.args.self.now.denominator * unsigned_abs c.lowest_terms-a.result.0 < 2 ^ 63
denominator_is_low c = subst (λ (k : ℕ). k < 2 ^ 63) (product_is c) c.in-Some.ensures.0

pub returns-then-subtract_multiple-clause-less : goal.returns-then-subtract_multiple-clause-less
returns-then-subtract_multiple-clause-less c =
    let fp : FitsSigned w64 c.args.pivot = c.ranges.pivot in
    let fe : FitsSigned w64 c.args.entry = c.ranges.entry in
    let a = simp to_z-of_z at c.lowest_terms-a.ensures.pivot in
    let b = simp to_z-of_z at c.lowest_terms-a.ensures.entry in
    let fa : FitsSigned w64 c.lowest_terms-a.result.0 = search rules in
    let fb : FitsSigned w64 c.lowest_terms-a.result.1 = search rules in
    let combined = simp to_z-of_z at c.if-subtract_multiple.ensures.combined in
    let one = simp to_z-of_z at c.if-subtract_multiple.ensures.one in
    multiple_reduced (length c.args.own.now.numbers) c.args.limit c.args.self.now c.args.own.now c.subtract_multiple.new.self c.args.entry
    c.args.pivot c.lowest_terms-a.result.0 c.lowest_terms-a.result.1 c.requires.pivot
    a one combined c.if-subtract_multiple.ensures.denominator b

pub returns-then-subtract_multiple-clause-usable : goal.returns-then-subtract_multiple-clause-usable
returns-then-subtract_multiple-clause-usable c =
    let fp : FitsSigned w64 c.args.pivot = c.ranges.pivot in
    let fe : FitsSigned w64 c.args.entry = c.ranges.entry in
    let a = simp to_z-of_z at c.lowest_terms-a.ensures.pivot in
    let fa : FitsSigned w64 c.lowest_terms-a.result.0 = search rules in
    let fb : FitsSigned w64 c.lowest_terms-a.result.1 = search rules in
    let combined = simp to_z-of_z at c.if-subtract_multiple.ensures.combined in
    let one = simp to_z-of_z at c.if-subtract_multiple.ensures.one in
    multiple_usable (length c.args.own.now.numbers) c.args.limit c.args.self.now c.args.own.now c.subtract_multiple.new.self c.args.entry
    c.args.pivot c.lowest_terms-a.result.0 c.lowest_terms-a.result.1 c.requires.pivot
    a one combined c.if-subtract_multiple.ensures.denominator c.requires.row

pub returns-then-combine-clause-less : goal.returns-then-combine-clause-less
returns-then-combine-clause-less c =
    let d = (goal.at.returns-then-combine-clause-less c).In-Some in
    let fa : FitsSigned w64 c.lowest_terms-a.result.0 = search rules in
    let fb : FitsSigned w64 c.lowest_terms-a.result.1 = search rules in
    let combined = subst (λ (row : WholeRowView). IsCombined (length c.args.own.now.numbers) c.args.limit row.numbers c.args.own.now.numbers
    c.lowest_terms-a.result.0 c.lowest_terms-a.result.1 c.combine.new.self.numbers)
    c.if-subtract_multiple.ensures.kept (simp to_z-of_z at c.if-combine.ensures.combined) in
    less_row (length c.args.own.now.numbers) c.args.limit c.args.self.now c.args.own.now c.combine.new.self c.args.entry c.args.pivot
    c.lowest_terms-a.result.0 c.lowest_terms-a.result.1 c.requires.pivot
    (factor_is d) (own_factor_is d) combined (c.if-combine.ensures.denominator ∙ denominator_is d) (denominator_is_low d)

pub returns-then-combine-clause-usable : goal.returns-then-combine-clause-usable
returns-then-combine-clause-usable c =
    let d = (goal.at.returns-then-combine-clause-usable c).In-Some in
    let fa : FitsSigned w64 c.lowest_terms-a.result.0 = search rules in
    let fb : FitsSigned w64 c.lowest_terms-a.result.1 = search rules in
    let combined = subst (λ (row : WholeRowView). IsCombined (length c.args.own.now.numbers) c.args.limit row.numbers c.args.own.now.numbers
    c.lowest_terms-a.result.0 c.lowest_terms-a.result.1 c.combine.new.self.numbers)
    c.if-subtract_multiple.ensures.kept (simp to_z-of_z at c.if-combine.ensures.combined) in
    combined_usable (length c.args.own.now.numbers) c.args.limit c.args.self.now c.args.own.now c.combine.new.self c.args.entry c.args.pivot
    c.lowest_terms-a.result.0 c.lowest_terms-a.result.1 c.requires.pivot
    (factor_is d) c.requires.row combined (c.if-combine.ensures.denominator ∙ denominator_is d)

-- the row that the numbers in 64 bits are formed of is the one at the beginning
combined_in_room : (c : Else-not-combine_to) → IsCombined (length c.args.own.now.numbers) 9223372036854775807 c.args.self.now.numbers c.args.own.now.numbers
    c.lowest_terms-a.result.0 c.lowest_terms-a.result.1 c.combine_to.new.room
combined_in_room c =
    let fa : FitsSigned w64 c.lowest_terms-a.result.0 = search rules in
    let fb : FitsSigned w64 c.lowest_terms-a.result.1 = search rules in
    subst (λ (row : WholeRowView). IsCombined (length c.args.own.now.numbers) 9223372036854775807 row.numbers c.args.own.now.numbers
    c.lowest_terms-a.result.0 c.lowest_terms-a.result.1 c.combine_to.new.room)
    (c.if-combine.ensures.kept ∙ c.if-subtract_multiple.ensures.kept) (simp to_z-of_z at c.if-not-combine_to.ensures.combined)

pub take_shortened-requires-clause-even : goal.take_shortened-requires-clause-even
take_shortened-requires-clause-even c = ap (λ (r : WholeRowView). length r.numbers) (c.if-combine.ensures.kept ∙ c.if-subtract_multiple.ensures.kept)
    ∙ c.requires.row.length_is ∙ sym c.requires.room ∙ sym c.combine_to.ensures.room

pub take_shortened-requires-clause-short : goal.take_shortened-requires-clause-short
take_shortened-requires-clause-short c = λ k l.
    let s = c.if-not-combine_to.ensures.combined.small k (omega (arith, l, c.combine_to.ensures.room, c.requires.room)) in omega (arith, s)

pub take_shortened-requires-clause-some : goal.take_shortened-requires-clause-some
take_shortened-requires-clause-some c =
    let d = (goal.at.take_shortened-requires-clause-some c).In-Some in
    subst (λ (k : ℕ). 0 < k) (sym (denominator_is d)) (mul-pos c.requires.row.some
    (factor_some c.args.pivot c.args.entry c.lowest_terms-a.result.0 c.requires.pivot (factor_is d)))

by_test : (b : Bool) {P Q R : Type 0} → OnTrue b P → OnTrue b Q → (P → Q → R) → OnTrue b R
by_test true p q f = f p q
by_test false p q f = tt

pub returns-clause-less : goal.returns-clause-less
returns-clause-less c =
    let d = (goal.at.returns-clause-less c).In-Some in
    by_test c.take_shortened.result c.take_shortened.ensures.shortened c.take_shortened.ensures.small
    (λ s m. shortened_reduced (length c.args.own.now.numbers) c.args.limit c.args.self.now c.args.own.now c.take_shortened.new.self
    c.args.entry c.args.pivot c.lowest_terms-a.result.0 c.lowest_terms-a.result.1 c.requires.pivot
    (factor_is d) c.in-Some.denominator c.requires.limit (denominator_is d) c.combine_to.new.room
    (combined_in_room (goal.at.returns-clause-less c).Else-not-combine_to) s m (own_factor_is d) (denominator_is_low d))

pub returns-clause-usable : goal.returns-clause-usable
returns-clause-usable c =
    let d = (goal.at.returns-clause-usable c).In-Some in
    by_test c.take_shortened.result c.take_shortened.ensures.shortened c.take_shortened.ensures.small
    (λ s m. room_usable (length c.args.own.now.numbers) c.args.limit c.args.self.now c.args.own.now c.take_shortened.new.self c.args.entry
    c.args.pivot c.lowest_terms-a.result.0 c.lowest_terms-a.result.1 c.requires.pivot
    (factor_is d) c.in-Some.denominator c.requires.limit (denominator_is d) c.combine_to.new.room
    (combined_in_room (goal.at.returns-clause-usable c).Else-not-combine_to) s m c.requires.row)
