use Rattle.std.proofs.Common.{take}
use Rattle.std.specs.Char.{is_ascii_digit}
use Rattle.it_syntax.specs.Spelling.{AreAll}
use Rattle.it_syntax.proofs.runs.digits.Given as goal

abbrev pub invariant-loop-i : goal.invariant-loop-i
invariant-loop-i l = AreAll is_ascii_digit (take l.i l.bytes)
