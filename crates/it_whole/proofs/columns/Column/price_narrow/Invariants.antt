use Rattle.it_whole.specs.Combinations.{IsPriced}
use Rattle.it_whole.proofs.columns.Column.price_narrow.Given as goal

abbrev pub invariant-loop-i : goal.invariant-loop-i
invariant-loop-i l = IsPriced l.self l.row.numbers l.i l.sum
