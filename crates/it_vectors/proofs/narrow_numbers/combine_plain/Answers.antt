use Rattle.std.proofs.Common.{FitsSigned, to_z-of_z, w32}
use Rattle.it_vectors.proofs.narrow_numbers.combine_plain.Goals as goal

pub returns-then-a-ne1-clause-entries : goal.returns-then-a-ne1-clause-entries
returns-then-a-ne1-clause-entries c =
    let fa : FitsSigned w32 c.args.a = c.ranges.a in
    let fb : FitsSigned w32 c.args.b = c.ranges.b in
    simp to_z-of_z at c.multiply_and_subtract.ensures.entries
