-- No public clause cites this module: a step of the run on a tableau, the run to its last table, and the point of that table.
use Rattle.std.specs.Prelude.{◌≡◌, ℕ, ◌<◌, Bool, true, false, cond, ltb, ◌&&◌, List, Option, Some, None}
use Rattle.it_rational.specs.Rational.{Rational, plus, minus, is_at_least_zero}
use Rattle.it_tableau.specs.Operations.{rationals}
use Rattle.it_tableau.specs.SimplexTables.{SimplexTable, FeasibilityProblem, ratio}
use Rattle.it_tableau.specs.Invariants.{HasInvariants}
use Rattle.it_tableau.specs.TableauViews.{TableauView, height, table, IsPositive, KeepsFrame}
use Rattle.it_run.specs.Answers.{HasSigns}
use Rattle.it_run.specs.Readings.{point}
use Rattle.it_run.specs.Choice.{entering_column, is_candidate, leaving_row, leaving_row_of, next, IsDone, IsStuck}
use Rattle.it_run.specs.Runs.{RunEndView, EndsAs, EndsBy}
use Rattle.it_run.specs.Runs.RunEndView.{Weights, Point, Pivots, Width}
use Rattle.it_run.specs.Solving.{StepFits}
use Rattle.it_run.specs.declared.run.RunEnd.{RunEnd}
use Rattle.it_run.specs.declared.run.RunEnd.TheVariants as run_ends

-- whether a row comes before the best so far, by its ratio and its basic column
abbrev pub ratio_precedes : Rational → ℕ → Rational → ℕ → Bool
ratio_precedes q b best d = cond (is_at_least_zero (plus q (minus best))) (is_at_least_zero (plus best (minus q)) && ltb b d) true

-- the best row so far with its ratio, after row i with the ratio q
abbrev pub best_after : Option (ℕ × Rational) → ℕ → Rational → (ℕ → ℕ) → Option (ℕ × Rational)
best_after None i q basis = Some (i, q)
best_after (Some b) i q basis = cond (ratio_precedes q (basis i) b.1 (basis b.0)) (Some (i, q)) (Some b)

-- the option is the best of the rows below i, with its ratio
abbrev pub IsBestOf : ℕ → ℕ → SimplexTable Rational → ℕ → ℕ → Option (ℕ × Rational) → Type 0
IsBestOf m n t c i None = leaving_row_of rationals m n t c i ≡ m
IsBestOf m n t c i (Some b) = (leaving_row_of rationals m n t c i ≡ b.0) × (b.0 < i) × (b.1 ≡ ratio rationals m n t c b.0) × (is_candidate rationals t c b.0 ≡ true)

-- the option is the leaving row, or None if there is none
abbrev pub IsLeaving : ℕ → ℕ → SimplexTable Rational → ℕ → Option ℕ → Type 0
IsLeaving m n t c None = leaving_row rationals m n t c ≡ m
IsLeaving m n t c (Some r) = (leaving_row rationals m n t c ≡ r) × (r < m) × IsPositive (t.entry r c)

-- the entering column
abbrev pub entering_column_of : TableauView → ℕ
entering_column_of t = entering_column rationals (height t) t.generator_columns (table t)

-- if some column enters, some row leaves
abbrev pub IsReady : ℕ → ℕ → SimplexTable Rational → Type 0
IsReady m n t = ¬ (IsStuck rationals m n t) → leaving_row rationals m n t (entering_column rationals m n t) < m

-- a step was made
pub record IsStep (old new : TableauView) : Type 0 where
  pub moves : ¬ (IsStuck rationals (height old) old.generator_columns (table old))
  pub fits : StepFits (height old) old.generator_columns (table old)
  pub usable : new.spent ≡ false
  pub frame : KeepsFrame old new
  pub table_is : table new ≡ next rationals (height old) old.generator_columns (table old)

-- false: no step was made, since the run is stuck; true: a step was made
abbrev pub IsStepOrStuck : TableauView → TableauView → Bool → Type 0
IsStepOrStuck old new false = IsStuck rationals (height old) old.generator_columns (table old) × (new ≡ old)
IsStepOrStuck old new true = IsStep old new

-- a step is left, and a number of it passes the limit
abbrev pub IsWide : ℕ → ℕ → SimplexTable Rational → Type 0
IsWide m n t = ¬ (IsStuck rationals m n t) × ¬ (StepFits m n t)

-- the run ends with e, where the end has the last table instead of weights or a point
abbrev pub Reaches : ℕ → ℕ → ℕ → ℕ → SimplexTable Rational → RunEndView (SimplexTable Rational) (SimplexTable Rational) → Type 0
Reaches m n = EndsAs (IsDone rationals m n) (IsStuck rationals m n) (StepFits m n) (next rationals m n) (λ t. t) (λ t. t)

-- the run from a tableau ends so
abbrev pub ReachesFrom : TableauView → ℕ → ℕ → RunEndView (SimplexTable Rational) (SimplexTable Rational) → Type 0
ReachesFrom t left k = Reaches (height t) t.generator_columns left k (table t)

-- the run, with a budget or without one, ends so
abbrev pub ReachesBy : ℕ → ℕ → Option ℕ → SimplexTable Rational → RunEndView (SimplexTable Rational) (SimplexTable Rational) → Type 0
ReachesBy m n = EndsBy (IsDone rationals m n) (IsStuck rationals m n) (StepFits m n) (next rationals m n) (λ t. t) (λ t. t)

-- the end that the code returns, with t as the last table
abbrev pub run_end_view : RunEnd → SimplexTable Rational → RunEndView (SimplexTable Rational) (SimplexTable Rational)
run_end_view run_ends.Weights t = Weights t
run_end_view run_ends.Point t = Point t
run_end_view (run_ends.Pivots k) t = Pivots k
run_end_view (run_ends.Width k) t = Width k

-- the run from the tableau old, with a budget or without one, has the end end, and leaves the tableau new
abbrev pub RunsToTableau : TableauView → Option ℕ → RunEnd → TableauView → Type 0
RunsToTableau old budget end new = ReachesBy (height old) old.generator_columns budget (table old) (run_end_view end (table new))

-- q is the point of the tableau's table, for any problem with the tableau's signs
abbrev pub IsPointRead : TableauView → List Rational → Type 0
IsPointRead t q = (p : FeasibilityProblem Rational) → HasSigns t p → q ≡ point rationals (height t) t.generator_columns p (table t)

-- the table has the invariants, for some problem
abbrev pub HasInvariantsForSome : TableauView → Type 0
HasInvariantsForSome t = (p : FeasibilityProblem Rational) × HasInvariants rationals (height t) t.generator_columns p (table t)

-- new isn't spent, and has the frame of old and the invariants
pub record IsTableauKept (old new : TableauView) : Type 0 where
  pub usable : new.spent ≡ false
  pub frame : KeepsFrame old new
  pub holds : HasInvariantsForSome new

-- the tableau after a run with this end: after a wide step nothing is known of it
abbrev pub LeavesTableau : RunEnd → TableauView → TableauView → Type 0
LeavesTableau run_ends.Weights old new = IsTableauKept old new
LeavesTableau run_ends.Point old new = IsTableauKept old new
LeavesTableau (run_ends.Pivots k) old new = IsTableauKept old new
LeavesTableau (run_ends.Width k) old new = Unit {0}
