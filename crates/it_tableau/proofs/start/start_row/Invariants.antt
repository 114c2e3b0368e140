use Rattle.std.proofs.Common.{length}
use Rattle.it_tableau.specs.Operations.{rationals}
use Rattle.it_tableau.specs.Problems.{feasibility_problem}
use Rattle.it_tableau.specs.Rows.{IsWholeNumber}
use Rattle.it_tableau.specs.SimplexTables.{start_row}
use Rattle.it_tableau.proofs.Building.{IsBuilt}
use Rattle.it_tableau.proofs.start.start_row.Given as goal

abbrev pub invariant-loop-j : goal.invariant-loop-j
invariant-loop-j l = IsBuilt (start_row rationals (length l.coordinates) (length l.columns)
    (feasibility_problem l.coordinates l.columns l.target) l.k) (λ j. IsWholeNumber
    (start_row rationals (length l.coordinates) (length l.columns) (feasibility_problem l.coordinates l.columns l.target) l.k j)) l.j
    l.terms.items
