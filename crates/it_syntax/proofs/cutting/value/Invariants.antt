use Rattle.std.proofs.Common.{◌≡◌, ◌<◌, ◌^◌, drop}
use Rattle.std.specs.Char.{is_ascii_digit}
use Rattle.it_number.specs.Decimals.{value_from}
use Rattle.it_syntax.specs.Spelling.{AreAll}
use Rattle.it_syntax.proofs.cutting.value.Given as goal

abbrev pub invariant-loop-b : goal.invariant-loop-b
invariant-loop-b l = (value_from l.n (drop l.b-index l.text) ≡ value_from 0 l.text) × (l.n < 2 ^ 64) × AreAll is_ascii_digit (drop l.b-index l.text)
