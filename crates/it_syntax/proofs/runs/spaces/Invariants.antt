use Rattle.std.proofs.Common.{take}
use Rattle.it_syntax.specs.Spelling.{AreAll, is_space}
use Rattle.it_syntax.proofs.runs.spaces.Given as goal

abbrev pub invariant-loop-i : goal.invariant-loop-i
invariant-loop-i l = AreAll is_space (take l.i l.bytes)
