use Rattle.std.proofs.Common.{◌≡◌, ◌+ℤ◌, ◌*ℤ◌, neg_ℤ, ◌∙◌, FitsSigned, to_z-of_z, w32}
use Rattle.it_space.specs.Sums.{number_at}
use Rattle.it_vectors.proofs.Stretches.{at_places}
use Rattle.it_vectors.proofs.narrow_numbers.subtract_stretch.Goals as goal

pub returns-clause-part : goal.returns-clause-part
returns-clause-part c =
    let f : FitsSigned w32 c.args.b = c.ranges.b in
    let e = simp to_z-of_z at c.stretch_less_product-numbers.ensures in
    at_places (λ k. number_at c.write_stretch.new.row k ≡ number_at c.args.row.now k +ℤ neg_ℤ (number_at c.args.by.now k *ℤ c.args.b)) c.args.from
    (λ j h. c.write_stretch.ensures.stretch j h ∙ e j h)
