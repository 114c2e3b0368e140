-- A run without a budget, and how its loop ends or goes on.
use Rattle.std.proofs.Common.{◌≡◌, ◌≢◌, ℕ, suc, ◌+◌, ◌-◌, ◌<◌, None, refl, sym, subst, arith, min}
use Rattle.it_rational.specs.Rational.{Rational}
use Rattle.it_rational.proofs.Field.{field_ℚ}
use Rattle.it_tableau.specs.Operations.{rationals}
use Rattle.it_tableau.specs.TableauViews.{TableauView, height, table}
use Rattle.it_tableau.specs.SimplexTables.{SimplexTable}
use Rattle.it_run.specs.Choice.{IsDone, IsStuck}
use Rattle.it_run.specs.Runs.{RunEndView, clip_number}
use Rattle.it_run.specs.Runs.RunEndView.{Weights, Point, Pivots, Width}
use Rattle.it_run.specs.Steps.{IsStep, IsWide, HasInvariantsForSome, ReachesBy, ReachesFrom}
use Rattle.it_run.proofs.RunSteps.{run_done, run_stuck, run_wide, step_on}
use Rattle.it_run.proofs.StepsLeft.{steps_left, steps_fall}

-- the run from a tableau without a budget ends so
abbrev EndsWithoutBudget : TableauView → RunEndView (SimplexTable Rational) (SimplexTable Rational) → Type 0
EndsWithoutBudget t e = ReachesBy (height t) t.generator_columns None (table t) e

-- the number of steps that are left to a tableau whose table has the invariants
unfoldable pub steps_left_to : TableauView → ℕ
steps_left_to t = steps_left field_ℚ (height t) t.generator_columns (table t)

pub steps_left_falls : (old new : TableauView) → IsStep old new → HasInvariantsForSome old → steps_left_to new < steps_left_to old
unfolding steps_left_to
steps_left_falls old new s h =
    subst (λ (m : ℕ). steps_left field_ℚ m new.generator_columns (table new) < steps_left_to old) (sym s.frame.height)
    (subst (λ (n : ℕ). steps_left field_ℚ (height old) n (table new) < steps_left_to old) (sym s.frame.generator_columns)
    (subst (λ (t : SimplexTable Rational). steps_left field_ℚ (height old) old.generator_columns t < steps_left_to old) (sym s.table_is)
    (steps_fall field_ℚ (height old) old.generator_columns h.0 (table old) h.1 s.moves)))

-- the run has come from one tableau to another, and the next step has this number
pub record IsRunUnderWay (from now : TableauView) (number : ℕ) : Type 0 where
  pub made : ℕ
  pub number_is : number ≡ clip_number (suc made)
  -- what the rest of the run does from here it does from the start, with some budget
  pub back : (left : ℕ) (e : RunEndView (SimplexTable Rational) (SimplexTable Rational)) → ReachesFrom now left made e
      → (budget : ℕ) × ReachesFrom from budget 0 e

module _ (from now : TableauView) (number : ℕ) (w : IsRunUnderWay from now number) where
  -- it ends so
  run_ends : (left : ℕ) (e : RunEndView (SimplexTable Rational) (SimplexTable Rational)) → ReachesFrom now left w.made e
      → ((k : ℕ) → e ≢ Pivots k) → EndsWithoutBudget from e
  run_ends left e r i = let b = w.back left e r in (b.0, b.1, i)

  pub unbound_done : IsDone rationals (height now) now.generator_columns (table now) → EndsWithoutBudget from (Weights (table now))
  unbound_done d = run_ends 0 (Weights (table now)) (run_done (height now) now.generator_columns 0 w.made (table now) d) (λ k q. cc)

  pub unbound_stuck : (s : SimplexTable Rational) → ¬ (IsDone rationals (height now) now.generator_columns (table now))
      → IsStuck rationals (height now) now.generator_columns (table now) → s ≡ table now → EndsWithoutBudget from (Point s)
  unbound_stuck s d u e = run_ends 0 (Point s) (run_stuck (height now) now.generator_columns 0 w.made (table now) s d u e) (λ k q. cc)

  pub unbound_wide : ¬ (IsDone rationals (height now) now.generator_columns (table now))
      → IsWide (height now) now.generator_columns (table now) → EndsWithoutBudget from (Width number)
  unbound_wide d u = subst (λ (k : ℕ). EndsWithoutBudget from (Width k)) (sym w.number_is)
      (run_ends 1 (Width (clip_number (suc w.made))) (run_wide (height now) now.generator_columns 1 w.made (clip_number (suc w.made))
      (table now) (omega arith) d u refl) (λ k q. cc))

  -- a step further
  pub step_is_made : (new : TableauView) (k : ℕ) → k ≡ clip_number (number + 1)
      → ¬ (IsDone rationals (height now) now.generator_columns (table now)) → IsStep now new → IsRunUnderWay from new k
  step_is_made new k q d s = record {
    made = suc w.made;
    number_is = (let n : number ≡ min (suc w.made) 4294967295 = w.number_is in let x : k ≡ min (number + 1) 4294967295 = q in omega arith);
    back = λ left e r. w.back (suc left) e (step_on now new (suc left) w.made e (omega arith) d s (one_step_more left e r));
  }
    where
      one_step_more : (left : ℕ) (e : RunEndView (SimplexTable Rational) (SimplexTable Rational)) → ReachesFrom new left (suc w.made) e
          → ReachesFrom new (suc left - 1) (w.made + 1) e
      one_step_more left e r =
          let a : left ≡ suc left - 1 = omega arith in
          let b : suc w.made ≡ w.made + 1 = omega arith in
          subst (λ (x : ℕ). ReachesFrom new x (w.made + 1) e) a (subst (λ (x : ℕ). ReachesFrom new left x e) b r)
