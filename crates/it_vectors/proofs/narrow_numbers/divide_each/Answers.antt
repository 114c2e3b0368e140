use Rattle.std.proofs.Common.{rules, ◌<◌, FitsSigned, to_z-of_z, w32, length, arith}
use Rattle.it_vectors.proofs.narrow_numbers.divide_each.Goals as goal

pub narrow_quotient-requires-clause-divides : goal.narrow_quotient-requires-clause-divides
narrow_quotient-requires-clause-divides c =
    let f : FitsSigned w32 c.read.result = search rules in
    let l : c.loop-k.k < length c.args.row.now = search (rules, c.loop-k.invariant.same_length) in
    simp to_z-of_z (rw (c.read.ensures, c.loop-k.invariant.rest c.loop-k.k (omega arith)) (c.requires.divides.each c.loop-k.k l))
