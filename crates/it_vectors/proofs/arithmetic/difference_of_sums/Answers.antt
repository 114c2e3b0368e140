use Rattle.std.proofs.Common.{◌+ℤ◌, ◌-ℤ◌, FitsSigned, to_z-of_z, w64, arith}
use Rattle.std.proofs.lemmas.Int.{ints, fits_signed_from_abs}
use Rattle.it_vectors.proofs.arithmetic.difference_of_sums.Goals as goal

pub returns : goal.returns
returns c =
    let f0 : FitsSigned w64 c.args.a = c.ranges.a in
    let f1 : FitsSigned w64 c.args.b = c.ranges.b in
    let f2 : FitsSigned w64 c.args.c = c.ranges.c in
    let f3 : FitsSigned w64 c.args.d = c.ranges.d in
    let f4 : FitsSigned w64 (c.args.a +ℤ c.args.b) = fits_signed_from_abs w64 _ (omega (arith, ints, c.requires)) in
    let f5 : FitsSigned w64 (c.args.c +ℤ c.args.d) = fits_signed_from_abs w64 _ (omega (arith, ints, c.requires)) in
    let f6 : FitsSigned w64 ((c.args.a +ℤ c.args.b) -ℤ (c.args.c +ℤ c.args.d)) = fits_signed_from_abs w64 _ (omega (arith, ints, c.requires)) in
    simp to_z-of_z
