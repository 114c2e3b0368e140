use Rattle.std.proofs.Common.{rules, mul-pos, List, ℤ, ℕ, ◌*◌, ◌<◌, ◌^◌, ◌≡◌, ◌∙◌, ap, ap₂, sym, subst, FitsSigned, to_z-of_z, w64, length, unsigned_abs, arith}
use Rattle.std.proofs.lemmas.List.{with_items_is}
use Rattle.std.specs.Vec.{with_items}
use Rattle.it_number.specs.Gcd.{gcd}
use Rattle.it_number.specs.Division.{int_quotient}
use Rattle.it_vectors.specs.Combinations.{IsCombined}
use Rattle.it_whole.specs.WholeRows.{IsUsable, WholeRowView}
use Rattle.it_whole.specs.Updates.{IsWholeRowReduced}
use Rattle.it_whole.proofs.RowSteps.{less_row}
use Rattle.it_whole.proofs.Usable.{factor_some}
use Rattle.it_whole.proofs.wide_rows.WideRow.reduce.Goals as goal
use Rattle.it_whole.proofs.wide_rows.WideRow.reduce.Goals.{In-Some-combine}

-- the numbers that come back are those of the row
numbers_are_written : (c : In-Some-combine) → (with_items c.self.inside.numbers c.combine.new.row).items ≡ c.combine.new.row
numbers_are_written c = with_items_is c.self.inside.numbers c.combine.new.row
    (c.in-Some-combine.ensures.combined.length_is ∙ ap length c.as_subtrahend-by.ensures
    ∙ sym c.requires.row.length_is ∙ ap (λ (r : WholeRowView). length r.numbers) (sym c.self.view_is) ∙ sym c.self.inside.numbers.ok.0)

pub returns-in-Some-combine-clause-less : goal.returns-in-Some-combine-clause-less
returns-in-Some-combine-clause-less c =
    let fe : FitsSigned w64 c.args.entry = c.ranges.entry in
    let fp : FitsSigned w64 c.args.pivot = c.ranges.pivot in
    let fa : FitsSigned w64 c.lowest_terms-a.result.0 = search rules in
    let fb : FitsSigned w64 c.lowest_terms-a.result.1 = search rules in
    let a : c.lowest_terms-a.result.0 ≡ int_quotient c.args.pivot (gcd (unsigned_abs c.args.pivot) (unsigned_abs c.args.entry))
    = simp to_z-of_z at c.lowest_terms-a.ensures.pivot in
    let b : c.lowest_terms-a.result.1 ≡ int_quotient c.args.entry (gcd (unsigned_abs c.args.pivot) (unsigned_abs c.args.entry))
    = simp to_z-of_z at c.lowest_terms-a.ensures.entry in
    let u : c.unsigned_abs.result ≡ unsigned_abs c.lowest_terms-a.result.0 = c.unsigned_abs.ensures.value ∙ ap unsigned_abs (to_z-of_z fa) in
    let combined = simp (to_z-of_z, c.as_subtrahend-by.ensures, c.as_mut_slice.ensures.value) at c.in-Some-combine.ensures.combined in
    let denominator = c.in-Some.ensures in
    let v = c.self.view_is in
    let d = (goal.at.returns-in-Some-combine-clause-less c).In-Some-combine in
    subst (λ (new : List ℤ). IsWholeRowReduced (length c.args.own.now.numbers) c.args.limit c.args.self.now c.args.own.now c.args.entry
    c.args.pivot record { numbers = new; denominator = c.in-Some.denominator }) (sym (numbers_are_written d))
    (less_row (length c.args.own.now.numbers) c.args.limit c.args.self.now c.args.own.now
    record { numbers = c.combine.new.row; denominator = c.in-Some.denominator } c.args.entry c.args.pivot
    c.lowest_terms-a.result.0 c.lowest_terms-a.result.1 c.requires.pivot a b
    (subst (λ (xs : List ℤ). IsCombined (length c.args.own.now.numbers) c.args.limit xs c.args.own.now.numbers
    c.lowest_terms-a.result.0 c.lowest_terms-a.result.1 c.combine.new.row) (ap (λ (r : WholeRowView). r.numbers) v) combined)
    (denominator.1 ∙ ap₂ (λ x y. x * y) (ap (λ (r : WholeRowView). r.denominator) v) u)
    (subst (λ (k : ℕ). k < 2 ^ 63) (ap₂ (λ x y. x * y) (ap (λ (r : WholeRowView). r.denominator) v) u) denominator.0))

pub returns-in-Some-combine-clause-usable : goal.returns-in-Some-combine-clause-usable
returns-in-Some-combine-clause-usable c =
    let fe : FitsSigned w64 c.args.entry = c.ranges.entry in
    let fp : FitsSigned w64 c.args.pivot = c.ranges.pivot in
    let fa : FitsSigned w64 c.lowest_terms-a.result.0 = search rules in
    let a : c.lowest_terms-a.result.0 ≡ int_quotient c.args.pivot (gcd (unsigned_abs c.args.pivot) (unsigned_abs c.args.entry))
    = simp to_z-of_z at c.lowest_terms-a.ensures.pivot in
    let u : c.unsigned_abs.result ≡ unsigned_abs c.lowest_terms-a.result.0 = c.unsigned_abs.ensures.value ∙ ap unsigned_abs (to_z-of_z fa) in
    let denominator = c.in-Some.ensures in
    let combined = c.in-Some-combine.ensures.combined in
    let len : length c.as_subtrahend-by.result ≡ length c.args.own.now.numbers = ap length c.as_subtrahend-by.ensures in
    let d = (goal.at.returns-in-Some-combine-clause-usable c).In-Some-combine in
    subst (λ (new : List ℤ). IsUsable (length c.args.own.now.numbers) c.args.limit record { numbers = new; denominator = c.in-Some.denominator })
    (sym (numbers_are_written d)) record {
      length_is = combined.length_is ∙ len;
      some = subst (λ (k : ℕ). 0 < k) (sym (denominator.1 ∙ ap₂ (λ x y. x * y) (ap (λ (r : WholeRowView). r.denominator) c.self.view_is) u))
          (mul-pos c.requires.row.some (factor_some c.args.pivot c.args.entry c.lowest_terms-a.result.0 c.requires.pivot a));
      small = λ k l. combined.small k (omega (arith, l, len));
    }
