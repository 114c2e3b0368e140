use Rattle.it_columns.proofs.ScaleSteps.{IsScale}
use Rattle.it_columns.proofs.scaling.common_scale.Given as goal

abbrev pub invariant-loop-number : goal.invariant-loop-number
invariant-loop-number l = IsScale l.numbers l.number-index l.scale
