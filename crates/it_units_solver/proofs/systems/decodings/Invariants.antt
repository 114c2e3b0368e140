use Rattle.std.proofs.Common.{◌≡◌, length}
use Rattle.it_units_solver.proofs.systems.decodings.Given as goal

abbrev pub invariant-loop-encoders : goal.invariant-loop-encoders
invariant-loop-encoders l = length l.pairs.items ≡ l.encoders
