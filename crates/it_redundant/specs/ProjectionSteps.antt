-- One rate of reduced elimination. No public clause cites this module.
use Rattle.std.specs.Prelude.{◌≡◌, ℕ, ◌^◌, List, [], ◌∷◌}
use Rattle.it_problems.specs.Problems.{ProblemView}
use Rattle.it_space.specs.Rows.{Terms}
use Rattle.it_eliminate.specs.Elimination.{EliminatedView, EliminationEnds, ordered_rows}
use Rattle.it_prove.specs.declared.types.Effort.{Effort}
use Rattle.it_eliminate.specs.declared.types.Stop.{Stop}
use Rattle.it_eliminate.specs.declared.types.Stop.TheVariants as stops
use Rattle.it_redundant.specs.declared.types.Reduced.{Reduced}
use Rattle.it_redundant.specs.Reduction.{dropped_view, kept_rows, kept_view}
use Rattle.it_redundant.specs.ReducedElimination.{ProjectedView, Region, Rows, Wide, GoesOn, ReducedEnds}

-- end is the result of one rate on rows: its elimination, and the reduction after it
abbrev pub IsAfterRate : ProblemView → Effort → ℕ → List Terms → ℕ → ProjectedView → Type 0
IsAfterRate givens effort most rows rate end = (step : EliminatedView) × EliminationEnds (2 ^ givens.space.variables) most (ordered_rows rows) (rate ∷ []) step × GoesOn givens effort (λ kept dropped. end ≡ Region kept dropped) step end

-- end is the result of the other rates on an earlier result
abbrev pub Resumes : ProblemView → Effort → ℕ → List ℕ → ProjectedView → ProjectedView → Type 0
Resumes givens effort most rates (Region kept dropped) end = ReducedEnds givens effort most (kept_rows kept) kept dropped rates end
Resumes givens effort most rates (Rows other) end = end ≡ Rows other
Resumes givens effort most rates (Wide other) end = end ≡ Wide other

-- the result that is a region, by its reduction
abbrev pub region_view : Reduced → ProjectedView
region_view reduced = Region (kept_view reduced) (dropped_view reduced)

-- a stop, where it isn't that memory ran out, is a result that reduced elimination may end with
abbrev pub StopsBy : (ProjectedView → Type 0) → Stop → Type 0
StopsBy ends (stops.Rows rate) = ends (Rows rate)
StopsBy ends (stops.Wide rate) = ends (Wide rate)
StopsBy ends stops.Memory = Unit {0}
