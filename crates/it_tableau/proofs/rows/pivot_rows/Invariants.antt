use Rattle.it_tableau.proofs.PivotLemmas.{IsPivotUnderWay}
use Rattle.it_tableau.proofs.rows.pivot_rows.Given as goal

abbrev pub invariant-loop-i : goal.invariant-loop-i
invariant-loop-i l = IsPivotUnderWay l.fn.rows l.rows l.own l.r l.c l.i l.pivot
