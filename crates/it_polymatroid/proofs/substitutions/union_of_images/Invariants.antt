use Rattle.std.proofs.Common.{◌≡◌, length, drop, bit_or}
use Rattle.it_polymatroid.specs.Substitutions.{union_from, union_of_images}
use Rattle.it_polymatroid.proofs.substitutions.union_of_images.Given as goal

abbrev pub invariant-loop-i : goal.invariant-loop-i
invariant-loop-i l = (l.i-end ≡ length l.sets) × (bit_or l.union (union_from l.i (drop l.i l.sets) l.of) ≡ union_of_images l.sets l.of)
