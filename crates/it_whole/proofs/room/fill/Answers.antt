use Rattle.std.proofs.Common.{FitsSigned, to_z-of_z, w64, arith}
use Rattle.it_whole.proofs.room.fill.Goals as goal

pub returns-clause-entries : goal.returns-clause-entries
returns-clause-entries c =
    let fa : FitsSigned w64 c.args.a = c.ranges.a in
    let fb : FitsSigned w64 c.args.b = c.ranges.b in
    let done = simp to_z-of_z at c.loop-k.invariant.done in
    λ k l. done k (omega (arith, l, c.requires.even, c.loop-k-test.false, c.loop-k.auto.k-end))
