use Rattle.std.proofs.Common.{◌≡◌, ◌∙◌, ap, sym, subst, FitsSigned, to_z-of_z, w64, length, List, ℤ, pos}
use Rattle.std.proofs.lemmas.List.{with_items_is}
use Rattle.std.specs.Vec.{with_items}
use Rattle.it_vectors.specs.Combinations.{IsCombined}
use Rattle.it_whole.specs.WholeRows.{WholeRowView}
use Rattle.it_whole.proofs.narrow_rows.NarrowRow.subtract_multiple.Goals as goal

pub returns-in-Some-clause-combined : goal.returns-in-Some-clause-combined
returns-in-Some-clause-combined c =
    let fb : FitsSigned w64 c.args.b = c.ranges.b in
    let numbers = ap (λ (r : WholeRowView). r.numbers) c.self.view_is in
    let own = c.as_subtrahend-by.ensures in
    let combined = simp to_z-of_z at c.in-Some.ensures.combined in
    let written : (with_items c.self.inside.numbers c.subtract_multiple.new.row).items ≡ c.subtract_multiple.new.row =
    with_items_is c.self.inside.numbers c.subtract_multiple.new.row (combined.length_is ∙ ap length own ∙ sym c.requires.even
    ∙ ap length (sym numbers) ∙ sym c.self.inside.numbers.ok.0) in
    subst (λ (new : List ℤ). IsCombined (length c.args.own.now.numbers) c.args.limit c.args.self.now.numbers c.args.own.now.numbers
    (pos 1) c.args.b new) (sym written)
    (subst (λ (by : List ℤ). IsCombined (length by) c.args.limit c.args.self.now.numbers by (pos 1) c.args.b c.subtract_multiple.new.row) own
    (subst (λ (row : List ℤ). IsCombined (length c.as_subtrahend-by.result) c.args.limit row c.as_subtrahend-by.result
    (pos 1) c.args.b c.subtract_multiple.new.row) (c.as_mut_slice.ensures.value ∙ numbers) combined))
