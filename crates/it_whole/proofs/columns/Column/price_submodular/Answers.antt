use Rattle.std.proofs.Common.{rules, FitsSigned, to_z-of_z, w64}
use Rattle.it_whole.proofs.Pricing.{submodular_value, submodular_small}
use Rattle.it_whole.proofs.columns.Column.price_submodular.Goals as goal

pub difference_of_sums-requires : goal.difference_of_sums-requires
difference_of_sums-requires c =
    let f0 : FitsSigned w64 c.number.result = search rules in
    let f1 : FitsSigned w64 c.number-2.result = search rules in
    let f2 : FitsSigned w64 c.number-3.result = search rules in
    let f3 : FitsSigned w64 c.number-4.result = search rules in
    simp to_z-of_z (rw (
      c.number.ensures,
      c.number-2.ensures,
      c.number-3.ensures,
      c.number-4.ensures,
      c.place.ensures,
      c.place-2.ensures,
      c.place-3.ensures,
      c.place-4.ensures,
    )
    (submodular_small c.args.self.now c.args.row.now.numbers c.requires.four c.requires.suits))

pub returns : goal.returns
returns c =
    let f0 : FitsSigned w64 c.number.result = search rules in
    let f1 : FitsSigned w64 c.number-2.result = search rules in
    let f2 : FitsSigned w64 c.number-3.result = search rules in
    let f3 : FitsSigned w64 c.number-4.result = search rules in
    let f4 : FitsSigned w64 c.difference_of_sums.result = search rules in
    simp to_z-of_z (rw c.difference_of_sums.ensures (simp to_z-of_z
    (rw (
      c.number.ensures,
      c.number-2.ensures,
      c.number-3.ensures,
      c.number-4.ensures,
      c.place.ensures,
      c.place-2.ensures,
      c.place-3.ensures,
      c.place-4.ensures,
    )
    (submodular_value c.args.self.now c.args.row.now.numbers c.requires.four))))
