use Rattle.std.proofs.Common.{arith}
use Rattle.it_syntax.proofs.cutting.word.Goals as goal

pub returns-else-n-le-LONGEST_WORD-clause-wrong : goal.returns-else-n-le-LONGEST_WORD-clause-wrong
returns-else-n-le-LONGEST_WORD-clause-wrong c = (c.requires, (c.word_bytes-n.result, (c.word_bytes-n.ensures, omega arith)))
