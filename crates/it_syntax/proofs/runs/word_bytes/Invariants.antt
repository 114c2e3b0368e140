use Rattle.std.proofs.Common.{take}
use Rattle.it_syntax.specs.Spelling.{AreAll, is_word_byte}
use Rattle.it_syntax.proofs.runs.word_bytes.Given as goal

abbrev pub invariant-loop-i : goal.invariant-loop-i
invariant-loop-i l = AreAll is_word_byte (take l.i l.bytes)
