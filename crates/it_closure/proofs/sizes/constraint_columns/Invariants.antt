use Rattle.std.proofs.Common.{}
use Rattle.it_closure.proofs.SizeLemmas.{AreCounted}
use Rattle.it_closure.proofs.sizes.constraint_columns.Given as goal

abbrev pub invariant-loop-constraint : goal.invariant-loop-constraint
invariant-loop-constraint l = AreCounted l.constraints l.constraint-index l.columns
