-- One step of the run and its ends, for a loop that makes the run.
use Rattle.std.proofs.Common.{◌≡◌, inl, inr, ℕ, zero, suc, ◌+◌, ◌-◌, ◌<◌, refl, sym, ap, subst, ◌∙◌, arith, Some}
use Rattle.std.proofs.lemmas.Bool.{true≢false}
use Rattle.it_rational.specs.Rational.{Rational, is_at_least_zero}
use Rattle.it_rational.proofs.Field.{field_ℚ}
use Rattle.it_tableau.specs.Operations.{rationals}
use Rattle.it_tableau.specs.SimplexTables.{SimplexTable, FeasibilityProblem, pivot}
use Rattle.it_tableau.specs.Fits.{PivotFits}
use Rattle.it_tableau.specs.Invariants.{HasInvariants}
use Rattle.it_tableau.specs.TableauViews.{TableauView, height, table}
use Rattle.it_run.specs.Choice.{entering_column, leaving_row, next, IsDone, IsStuck}
use Rattle.it_run.specs.Runs.{RunEndView, clip_number}
use Rattle.it_run.specs.Runs.RunEndView.{Weights, Point, Pivots, Width}
use Rattle.it_run.specs.Solving.{RatiosFit, StepFits}
use Rattle.it_run.specs.Steps.{IsLeaving, IsReady, IsStep, IsWide, Reaches, ReachesFrom, HasInvariantsForSome}
use Rattle.it_run.proofs.BlandRule.{first_before, first_at, entering_is, some_column, leaving_is}
use Rattle.it_run.proofs.RunLemmas.{next_holds}

module _ (m n : ℕ) where
  -- the end by weights
  abbrev pub Done : SimplexTable Rational → Type 0
  Done = IsDone rationals m n

  -- the end by a point
  abbrev pub Stuck : SimplexTable Rational → Type 0
  Stuck = IsStuck rationals m n

  -- the column that the search found
  pub record IsEnteringColumn (t : SimplexTable Rational) (c : ℕ) : Type 0 where
    pub within : c < n
    pub is : entering_column rationals m n t ≡ c

  pub stuck_without_entering : (t : SimplexTable Rational) → entering_column rationals m n t ≡ n → IsStuck rationals m n t
  stuck_without_entering t e j l = first_before (λ j. is_at_least_zero (t.entry m j)) 0 n j (omega arith) (omega arith)

  pub not_stuck_with_entering : (t : SimplexTable Rational) (c : ℕ) → IsEnteringColumn t c → ¬ (IsStuck rationals m n t)
  not_stuck_with_entering t c f s = true≢false (sym (s c f.within) ∙ ap (λ j. is_at_least_zero (t.entry m j)) (sym f.is)
      ∙ first_at (λ j. is_at_least_zero (t.entry m j)) 0 n (omega (arith, f.is, f.within)))

  -- a table with the invariants has a row that leaves
  pub ready_by_invariants : (p : FeasibilityProblem Rational) (t : SimplexTable Rational) → HasInvariants rationals m n p t → IsReady m n t
  ready_by_invariants p t h s =
      let e = entering_is field_ℚ m n t (some_column field_ℚ m n t s) in
      (leaving_is field_ℚ m n p t (entering_column rationals m n t) h e.below).row

  pub wide_ratio : (t : SimplexTable Rational) (c : ℕ) → IsEnteringColumn t c → ¬ (RatiosFit m n t c) → IsWide m n t
  wide_ratio t c f w = (not_stuck_with_entering t c f, λ s. w (subst (RatiosFit m n t) f.is s.ratios))

  -- the numbers of the pivot that the step makes
  to_step : (t : SimplexTable Rational) (c r : ℕ) → IsEnteringColumn t c → IsLeaving m n t c (Some r) → (P : ℕ → ℕ → Type 0) → P r c
      → P (leaving_row rationals m n t (entering_column rationals m n t)) (entering_column rationals m n t)
  to_step t c r f l P x = subst (λ (y : ℕ). P (leaving_row rationals m n t y) y) (sym f.is) (subst (λ (x : ℕ). P x c) (sym l.0) x)

  from_step : (t : SimplexTable Rational) (c r : ℕ) → IsEnteringColumn t c → IsLeaving m n t c (Some r) → (P : ℕ → ℕ → Type 0)
      → P (leaving_row rationals m n t (entering_column rationals m n t)) (entering_column rationals m n t) → P r c
  from_step t c r f l P x = subst (λ (x : ℕ). P x c) l.0 (subst (λ (y : ℕ). P (leaving_row rationals m n t y) y) f.is x)

  pub wide_pivot : (t : SimplexTable Rational) (c r : ℕ) → IsEnteringColumn t c → IsLeaving m n t c (Some r) → ¬ (PivotFits m n t r c) → IsWide m n t
  wide_pivot t c r f l w = (not_stuck_with_entering t c f, λ fit. w (from_step t c r f l (PivotFits m n t) fit.pivot))

  pub step_fits : (t : SimplexTable Rational) (c r : ℕ) → IsEnteringColumn t c → IsLeaving m n t c (Some r) → RatiosFit m n t c
      → PivotFits m n t r c → StepFits m n t
  step_fits t c r f l q p = record { ratios = subst (RatiosFit m n t) (sym f.is) q; pivot = to_step t c r f l (PivotFits m n t) p }

  pub step_is : (t : SimplexTable Rational) (c r : ℕ) → IsEnteringColumn t c → IsLeaving m n t c (Some r) → pivot rationals t r c ≡ next rationals m n t
  step_is t c r f l = to_step t c r f l (λ r' c'. pivot rationals t r c ≡ pivot rationals t r' c') refl

  -- how the loop ends or goes on
  pub run_done : (left k : ℕ) (t : SimplexTable Rational) → Done t → Reaches m n left k t (Weights t)
  run_done zero k t d = inl (d, refl)
  run_done (suc left) k t d = inl (d, refl)

  pub run_stuck : (left k : ℕ) (t s : SimplexTable Rational) → ¬ (Done t) → Stuck t → s ≡ t → Reaches m n left k t (Point s)
  run_stuck zero k t s d u e = inr (inl (d, u, ap (λ x. let r : RunEndView (SimplexTable Rational) (SimplexTable Rational) = Point x in r) e))
  run_stuck (suc left) k t s d u e = inr (inl (d, u, ap (λ x. let r : RunEndView (SimplexTable Rational) (SimplexTable Rational) = Point x in r) e))

  pub run_wide : (left k j : ℕ) (t : SimplexTable Rational) → 0 < left → ¬ (Done t) → IsWide m n t → j ≡ clip_number (suc k) → Reaches m n left k t (Width j)
  run_wide zero k j t h d w e = absurd (omega arith)
  run_wide (suc left) k j t h d w e = inr (inr (
    d,
    w.0,
    inl (
      w.1,
      ap
          (λ x. let r : RunEndView (SimplexTable Rational) (SimplexTable Rational) = Width x in r) e,
    ),
  ))

  pub run_more : (left k : ℕ) (t s : SimplexTable Rational) (e : RunEndView (SimplexTable Rational) (SimplexTable Rational)) → 0 < left
      → ¬ (Done t) → ¬ (Stuck t) → StepFits m n t → s ≡ next rationals m n t
      → Reaches m n (left - 1) (k + 1) s e → Reaches m n left k t e
  run_more zero k t s e h d u f q r = absurd (omega arith)
  run_more (suc left) k t s e h d u f q r =
      let a : suc left - 1 ≡ left = omega arith in
      let b : k + 1 ≡ suc k = omega arith in
      inr (inr (
        d,
        u,
        inr (
          f,
          subst (λ (x : SimplexTable Rational). Reaches m n left (suc k) x e) q
              (subst (λ (x : ℕ). Reaches m n left x s e) b (subst (λ (x : ℕ). Reaches m n x (k + 1) s e) a r)),
        ),
      ))

  pub run_budget : (left k : ℕ) (t : SimplexTable Rational) → left ≡ 0 → ¬ (Done t) → ¬ (Stuck t) → Reaches m n left k t (Pivots k)
  run_budget zero k t h d u = inr (inr (d, u, refl))
  run_budget (suc left) k t h d u = absurd (omega arith)

-- a step keeps the invariants
pub holds_next : (old new : TableauView) → IsStep old new → HasInvariantsForSome old → HasInvariantsForSome new
holds_next old new s h = (
  h.0,
  subst (λ (m : ℕ). HasInvariants rationals m new.generator_columns h.0 (table new)) (sym s.frame.height)
      (subst (λ (n : ℕ). HasInvariants rationals (height old) n h.0 (table new)) (sym s.frame.generator_columns)
      (subst (HasInvariants rationals (height old) old.generator_columns h.0) (sym s.table_is)
      (next_holds field_ℚ (height old) old.generator_columns h.0 (table old) h.1 s.moves))),
)

-- the end of the run after a step is its end from before it
pub step_on : (old new : TableauView) (left k : ℕ) (e : RunEndView (SimplexTable Rational) (SimplexTable Rational)) → 0 < left
    → ¬ (IsDone rationals (height old) old.generator_columns (table old)) → IsStep old new
    → ReachesFrom new (left - 1) (k + 1) e → ReachesFrom old left k e
step_on old new left k e h d s r = run_more (height old) old.generator_columns left k (table old) (table new) e h d s.moves s.fits s.table_is
    (subst (λ (n : ℕ). Reaches (height old) n (left - 1) (k + 1) (table new) e) s.frame.generator_columns
    (subst (λ (m : ℕ). Reaches m new.generator_columns (left - 1) (k + 1) (table new) e) s.frame.height r))
