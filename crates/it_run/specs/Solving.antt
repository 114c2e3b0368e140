-- The run over rational numbers, with the numbers that a step forms.
use Rattle.std.specs.Prelude.{◌≡◌, ℕ, ◌<◌, true, List, Option}
use Rattle.it_rational.specs.Rational.{Rational}
use Rattle.it_fraction.specs.Fits.{IsNarrow}
use Rattle.it_tableau.specs.Operations.{rationals}
use Rattle.it_tableau.specs.SimplexTables.{SimplexTable, FeasibilityProblem, ratio}
use Rattle.it_tableau.specs.Fits.{PivotFits}
use Rattle.it_run.specs.Choice.{entering_column, leaving_row, is_candidate, next, IsDone, IsStuck}
use Rattle.it_run.specs.Readings.{weights, point}
use Rattle.it_run.specs.Runs.{RunEndView, EndsBy}

-- the ratios of all rows with an entry above 0 at column c are within the limit
abbrev pub RatiosFit : ℕ → ℕ → SimplexTable Rational → ℕ → Type 0
RatiosFit m n t c = (i : ℕ) → i < m → is_candidate rationals t c i ≡ true → IsNarrow (ratio rationals m n t c i)

-- the numbers of a step are within the limit: the ratios, and those of the pivot
pub record StepFits (m n : ℕ) (t : SimplexTable Rational) : Type 0 where
  pub ratios : RatiosFit m n t (entering_column rationals m n t)
  pub pivot : PivotFits m n t (leaving_row rationals m n t (entering_column rationals m n t)) (entering_column rationals m n t)

-- the run from table t, with a budget of steps or without one, ends with e, where weights or a point are those of its last table
abbrev pub RunsTo : (m n : ℕ) → FeasibilityProblem Rational → Option ℕ → SimplexTable Rational → RunEndView (List (ℕ × Rational)) (List Rational) → Type 0
RunsTo m n p = EndsBy (IsDone rationals m n) (IsStuck rationals m n) (StepFits m n) (next rationals m n)
    (weights rationals m n) (point rationals m n p)
