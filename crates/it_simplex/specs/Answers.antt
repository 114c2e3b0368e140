-- The claims of an answer to a feasibility problem of sparse rows.
use Rattle.std.specs.Prelude.{◌≡◌, ◌⊎◌, ℕ, zero, List, length, Option}
use Rattle.it_rational.specs.Rational.{Rational}
use Rattle.it_space.specs.Rows.{Terms}
use Rattle.it_tableau.specs.Operations.{rationals}
use Rattle.it_tableau.specs.Fits.{StartFits}
use Rattle.it_tableau.specs.SimplexTables.{start}
use Rattle.it_tableau.specs.Problems.{feasibility_problem}
use Rattle.it_run.specs.Readings.{SumsUp, Separates}
use Rattle.it_run.specs.Runs.{RunEndView}
use Rattle.it_run.specs.Runs.RunEndView.{Width}
use Rattle.it_run.specs.Solving.{RunsTo}
use Rattle.it_run.specs.declared.answering.Solved.{Solved}
use Rattle.it_run.specs.declared.answering.Solved.TheVariants as answers
use Rattle.it_run.specs.declared.answering.Solved.TheVariants.{Weights, Point, Pivots}

-- e is the end of the run from the start, with a budget of steps or without one; it is `Width` 0 if a number of the start is wide
abbrev pub Solves : List ℕ → List Terms → Terms → Option ℕ → RunEndView (List (ℕ × Rational)) (List Rational) → Type 0
Solves coordinates columns target budget e =
    let m = length coordinates in
    let n = length columns in
    let p = feasibility_problem coordinates columns target in
    (¬ (StartFits m n p) × (e ≡ Width zero)) ⊎ (StartFits m n p × RunsTo m n p budget (start rationals m n p) e)

-- weights sum to the target; a point separates it from the columns
abbrev pub IsRightSolved : List ℕ → List Terms → Terms → Solved → Type 0
IsRightSolved coordinates columns target (Weights ws) = SumsUp rationals (length coordinates) (length columns) (feasibility_problem coordinates columns target) ws.items
IsRightSolved coordinates columns target (Point q) = Separates rationals (length coordinates) (length columns) (feasibility_problem coordinates columns target) q.items
IsRightSolved coordinates columns target (Pivots k) = Unit {0}
IsRightSolved coordinates columns target (answers.Width k) = Unit {0}

-- a run has one end: `Solves` holds of no two answers
abbrev pub EndsOnce : Type 0
EndsOnce = (coordinates : List ℕ) (columns : List Terms) (target : Terms) (budget : Option ℕ) (d e : RunEndView (List (ℕ × Rational)) (List Rational))
    → Solves coordinates columns target budget d → Solves coordinates columns target budget e → d ≡ e
