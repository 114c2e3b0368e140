-- The end of a run, by the first number of steps at which one of its ends holds.
use Rattle.std.specs.Prelude.{◌≡◌, ◌≢◌, ◌⊎◌, ℕ, suc, ◌<◌, Option, Some, List}
use Rattle.it_rational.specs.Rational.{Rational}
use Rattle.it_tableau.specs.Operations.{rationals}
use Rattle.it_tableau.specs.SimplexTables.{SimplexTable, FeasibilityProblem}
use Rattle.it_run.specs.Choice.{next, IsDone, IsStuck}
use Rattle.it_run.specs.Readings.{weights, point}
use Rattle.it_run.specs.Runs.{RunEndView, state_after_steps, clip_number}
use Rattle.it_run.specs.Solving.{RunsTo, StepFits}
use Rattle.it_run.specs.Runs.RunEndView.{Weights, Point, Pivots, Width}

module _ {S W P : Type 0} (IsDone IsStuck Fits : S → Type 0) (next : S → S) (weights : S → W) (point : S → P) where
  -- at the state s after k steps the run ends with e: it is done; it is stuck; the budget is k; or the next step doesn't fit
  abbrev pub EndsAt : Option ℕ → ℕ → S → RunEndView W P → Type 0
  EndsAt budget k s e = (IsDone s × (e ≡ Weights (weights s))) ⊎ ((¬ (IsDone s) × IsStuck s × (e ≡ Point (point s)))
      ⊎ ((¬ (IsDone s) × ¬ (IsStuck s) × (budget ≡ Some k) × (e ≡ Pivots k))
      ⊎ (¬ (IsDone s) × ¬ (IsStuck s) × (budget ≢ Some k) × ¬ (Fits s) × (e ≡ Width (clip_number (suc k))))))

  -- none of the ends holds at the state s after k steps
  abbrev pub GoesOnAt : Option ℕ → ℕ → S → Type 0
  GoesOnAt budget k s = ¬ (IsDone s) × ¬ (IsStuck s) × (budget ≢ Some k) × Fits s

  -- the run from s ends with e, at the first number of steps at which it doesn't go on
  pub record EndsFirst (budget : Option ℕ) (s : S) (e : RunEndView W P) : Type 0 where
    pub steps : ℕ
    pub before : (k : ℕ) → k < steps → GoesOnAt budget k (state_after_steps next s k)
    pub here : EndsAt budget steps (state_after_steps next s steps) e

-- the run from table t ends with e
abbrev pub RunsFirst : (m n : ℕ) → FeasibilityProblem Rational → Option ℕ → SimplexTable Rational → RunEndView (List (ℕ × Rational)) (List Rational) → Type 0
RunsFirst m n p = EndsFirst (IsDone rationals m n) (IsStuck rationals m n) (StepFits m n) (next rationals m n)
    (weights rationals m n) (point rationals m n p)

-- both definitions of the end of a run agree
abbrev pub EndsAreFirst : Type 0
EndsAreFirst = (m n : ℕ) (p : FeasibilityProblem Rational) (budget : Option ℕ) (t : SimplexTable Rational) (e : RunEndView (List (ℕ × Rational)) (List Rational))
    → (RunsTo m n p budget t e → RunsFirst m n p budget t e) × (RunsFirst m n p budget t e → RunsTo m n p budget t e)
