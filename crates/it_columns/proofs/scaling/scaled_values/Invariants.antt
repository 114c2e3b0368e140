use Rattle.it_columns.proofs.ScaleSteps.{AreScaled}
use Rattle.it_columns.proofs.scaling.scaled_values.Given as goal

abbrev pub invariant-loop-number : goal.invariant-loop-number
invariant-loop-number l = AreScaled l.scale l.numbers l.number-index l.values.items
