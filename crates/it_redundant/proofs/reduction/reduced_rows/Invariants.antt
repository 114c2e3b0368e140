use Rattle.std.proofs.Common.{◌≡◌, ◌++◌, drop, map}
use Rattle.it_space.specs.Spaces.{size_of}
use Rattle.it_prove.specs.ClosedProblems.{IsClosedProblem}
use Rattle.it_eliminate.specs.RowLines.{with_rows}
use Rattle.it_redundant.specs.Reduction.{kept_view, dropped_view}
use Rattle.it_redundant.proofs.VisitLemmas.{IsUnderWay}
use Rattle.it_redundant.proofs.reduction.reduced_rows.Given as goal

abbrev pub invariant-loop-i : goal.invariant-loop-i
invariant-loop-i l = record {
  under_way : IsUnderWay l.reduction.givens.now l.reduction.effort
      (size_of l.reduction.givens.now.space) l.rows (kept_view l.reduced) (dropped_view l.reduced) l.i;
  closed : IsClosedProblem l.reduction.givens.now l.closed;
  problem : l.problem ≡ with_rows l.reduction.givens.now (map (λ k. k.0) l.reduced.kept.items ++ drop l.i l.rows);
}
