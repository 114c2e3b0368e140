-- From a run on a tableau to its answer.
use Rattle.std.proofs.Common.{◌≡◌, ℕ, pos, negsuc, if◌then◌else◌, Bool, false, List, slice_index_or, Option, Result, Ok, Err, sym, ap, ap₂, subst, ◌∙◌, arith}
use Rattle.std.specs.Result.{IfOk}
use Rattle.it_rational.specs.Rational.{Rational, integer}
use Rattle.it_rational.proofs.Field.{field_ℚ}
use Rattle.it_tableau.specs.Operations.{rationals}
use Rattle.it_tableau.specs.Invariants.{HasInvariants}
use Rattle.it_tableau.specs.TableauViews.{TableauView, height, table, KeepsFrame}
use Rattle.it_tableau.specs.SimplexTables.{SimplexTable, FeasibilityProblem}
use Rattle.it_tableau.proofs.StartLemmas.{start_has_invariants}
use Rattle.it_run.specs.Answers.{HasProblem, HasSigns}
use Rattle.it_run.specs.Choice.{next, IsDone, IsStuck}
use Rattle.it_run.specs.Readings.{weights, point}
use Rattle.it_run.specs.Runs.{RunEndView}
use Rattle.it_run.specs.Runs.RunEndView.{Weights, Point}
use Rattle.it_run.specs.Solving.{RunsTo, StepFits}
use Rattle.it_run.specs.Steps.{HasInvariantsForSome, ReachesBy}
use Rattle.it_run.proofs.BudgetLemmas.{read_by}
use Rattle.it_run.proofs.RunLemmas.{with_readings}

-- the run with what is read off its last table
pub read_run : (m n : ℕ) (p : FeasibilityProblem Rational) (budget : Option ℕ) (t : SimplexTable Rational)
    (e : RunEndView (SimplexTable Rational) (SimplexTable Rational)) → ReachesBy m n budget t e
    → RunsTo m n p budget t (with_readings (IsDone rationals m n) (IsStuck rationals m n) (StepFits m n) (next rationals m n)
    (weights rationals m n) (point rationals m n p) e)
read_run m n p budget t e r = read_by (IsDone rationals m n) (IsStuck rationals m n) (StepFits m n) (next rationals m n)
    (weights rationals m n) (point rationals m n p) budget t e r

module _ (old new : TableauView) (p : FeasibilityProblem Rational) (budget : Option ℕ) where
  pub by_weights : (ws : List (ℕ × Rational)) → KeepsFrame old new → ReachesBy (height old) old.generator_columns budget (table old) (Weights (table new))
      → ws ≡ weights rationals (height new) new.generator_columns (table new) → RunsTo (height old) old.generator_columns p budget (table old) (Weights ws)
  by_weights ws f r e = subst (λ (ws : List (ℕ × Rational)). RunsTo (height old) old.generator_columns p budget (table old) (Weights ws))
      (sym (e ∙ ap₂ (λ m n. weights rationals m n (table new)) f.height f.generator_columns))
      (read_run (height old) old.generator_columns p budget (table old) (Weights (table new)) r)

  pub by_point : (q : List Rational) → KeepsFrame old new → HasSigns old p → ReachesBy (height old) old.generator_columns budget (table old) (Point (table new))
      → (HasSigns new p → q ≡ point rationals (height new) new.generator_columns p (table new))
      → RunsTo (height old) old.generator_columns p budget (table old) (Point q)
  by_point q f s r e = subst (λ (q : List Rational). RunsTo (height old) old.generator_columns p budget (table old) (Point q))
      (sym (e (λ k l. ap (λ (b : List Bool). integer (if slice_index_or b k false then negsuc 0 else pos 1)) f.negated ∙ s k (omega (arith, f.height, l)))
      ∙ ap₂ (λ m n. point rationals m n p (table new)) f.height f.generator_columns))
      (read_run (height old) old.generator_columns p budget (table old) (Point (table new)) r)

-- a start has the invariants
pub holds_start : (t : TableauView) → HasProblem t → HasInvariantsForSome t
holds_start t s = (
  s.0,
  subst (λ (x : SimplexTable Rational). HasInvariants rationals (height t) t.generator_columns s.0 x)
      (sym s.1.table_is) (start_has_invariants field_ℚ (height t) t.generator_columns s.0),
)

pub if_ok : {X E : Type 0} (r : Result X E) (P Q : X → Type 0) → IfOk r P → ((x : X) → P x → Q x) → IfOk r Q
if_ok (Ok x) P Q h f = f x h
if_ok (Err e) P Q h f = tt
