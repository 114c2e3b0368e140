use Rattle.std.proofs.Common.{rules, FitsSigned, to_z-of_z, w64}
use Rattle.it_whole.proofs.Pricing.{priced_more, priced_small}
use Rattle.it_whole.proofs.columns.Column.add_wide_term.Goals as goal

pub plus_product-requires : goal.plus_product-requires
plus_product-requires c =
    let f0 : FitsSigned w64 c.args.sum = c.ranges.sum in
    let f1 : FitsSigned w64 c.factor.result = search rules in
    let f2 : FitsSigned w64 c.number.result = search rules in
    simp to_z-of_z (rw (c.factor.ensures, c.number.ensures, c.place.ensures)
    (priced_small c.args.self.now c.args.row.now.numbers c.args.i c.requires.place c.requires.suits.within c.args.sum c.requires.suits.fits c.requires.priced))

pub returns : goal.returns
returns c =
    let f0 : FitsSigned w64 c.args.sum = c.ranges.sum in
    let f1 : FitsSigned w64 c.factor.result = search rules in
    let f2 : FitsSigned w64 c.number.result = search rules in
    let f3 : FitsSigned w64 c.plus_product.result = search rules in
    simp to_z-of_z (rw c.plus_product.ensures (simp to_z-of_z (rw (c.factor.ensures, c.number.ensures, c.place.ensures)
    (priced_more c.args.self.now c.args.row.now.numbers c.args.i c.requires.place c.requires.suits.within c.args.sum c.requires.priced))))
