use Rattle.it_spans.proofs.DropLemmas.{AreUnderWay}
use Rattle.it_spans.proofs.drops.drop_rows.Given as goal

abbrev pub invariant-loop-number : goal.invariant-loop-number
invariant-loop-number l = AreUnderWay l.givens.space l.ray l.initial.rows.items l.drops l.number l.rows.items
