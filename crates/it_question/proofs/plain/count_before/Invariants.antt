use Rattle.std.proofs.Common.{take}
use Rattle.it_syntax.specs.Spelling.{AreAll}
use Rattle.it_question.specs.ReaderSteps.{is_other}
use Rattle.it_question.proofs.plain.count_before.Given as goal

abbrev pub invariant-loop-i : goal.invariant-loop-i
invariant-loop-i l = AreAll (is_other l.stop) (take l.i l.bytes)
