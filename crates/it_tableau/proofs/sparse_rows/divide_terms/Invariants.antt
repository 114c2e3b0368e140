use Rattle.it_tableau.proofs.DivisionSteps.{IsDividing}
use Rattle.it_tableau.proofs.sparse_rows.divide_terms.Given as goal

abbrev pub invariant-loop-i : goal.invariant-loop-i
invariant-loop-i l = IsDividing l.width l.terms l.pivot l.i l.buffer.items
