use Rattle.bench.proofs.SystemRows.{AscendsBelow}
use Rattle.bench.proofs.systems.row_of.Given as goal

abbrev pub invariant-loop-text : goal.invariant-loop-text
invariant-loop-text l = AscendsBelow 0 l.least l.terms.items
