use Rattle.std.proofs.Common.{refl, FitsSigned, to_z-of_z, w32}
use Rattle.it_vectors.proofs.narrow_numbers.likely_quotient.Goals as goal

pub returns : goal.returns
returns c =
    let f : FitsSigned w32 c.args.z = c.ranges.z in
    rw (to_z-of_z f) refl
