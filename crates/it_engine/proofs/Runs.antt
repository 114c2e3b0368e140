-- A run of the engine under way.
use Rattle.std.proofs.Common.{◌≡◌, ℕ, ◌+◌, ◌-◌, ◌<◌, ◌≤◌, ℤ, pos, List, length, Some, refl, ap, subst, ◌∙◌, arith}
use Rattle.it_rational.specs.Rational.{Rational, IsRatio}
use Rattle.it_fraction.proofs.ZeroLemmas.{zero_parts}
use Rattle.it_space.specs.Rows.{Terms}
use Rattle.it_tableau.specs.Operations.{rationals}
use Rattle.it_tableau.specs.SimplexTables.{SimplexTable, FeasibilityProblem}
use Rattle.it_run.specs.Choice.{next, IsDone, IsStuck}
use Rattle.it_run.specs.Runs.{RunEndView}
use Rattle.it_run.specs.Steps.{Reaches}
use Rattle.it_run.proofs.RunSteps.{run_done, run_stuck, run_more, run_budget}
use Rattle.it_engine.specs.Behind.{AreEngineSteps, StepsLead}
use Rattle.it_engine.specs.Choosing.{right_side_of, first_negative_cost}
use Rattle.it_engine.specs.Engine.{IsSafe, Represents, IsEngineStep, IsFinished}
use Rattle.it_engine.specs.Tables.{whole_row_at}
use Rattle.it_whole.specs.WholeRows.{WholeRowView}
use Rattle.it_engine.specs.declared.engine.EngineEnd.TheVariants.{Weights, Point, Pivots}
use Rattle.it_whole.proofs.Names.{null_named, number_null}
use Rattle.it_engine.proofs.ManySteps.{steps_lead_on}
use Rattle.it_engine.proofs.Steps.{entering_same}

-- after k steps the engine shows a table from which the run goes on as from the first
pub record IsRunUnderWay (columns : List Terms) (limit : ℕ) (old : List WholeRowView) (basis : List ℕ) (budget : ℕ)
    (now : List WholeRowView) (now_basis : List ℕ) (k : ℕ) : Type 0 where
  pub engine : IsSafe columns limit now now_basis
  pub height : length now_basis ≡ length basis
  pub runs : (p : FeasibilityProblem Rational) (t : SimplexTable Rational) → Represents p t columns limit old basis
      → (s : SimplexTable Rational) × Represents p s columns limit now now_basis
      × ((e : RunEndView (SimplexTable Rational) (SimplexTable Rational)) → Reaches (length basis) (length columns) (budget - k) k s e
      → Reaches (length basis) (length columns) budget 0 t e)

pub run_begins : (columns : List Terms) (limit : ℕ) (old : List WholeRowView) (basis : List ℕ) (budget : ℕ) → IsSafe columns limit old basis
    → IsRunUnderWay columns limit old basis budget old basis 0
run_begins columns limit old basis budget h = record {
  engine = h;
  height = refl;
  runs = λ p t s.
      (t, s, λ e r. subst (λ (x : ℕ). Reaches (length basis) (length columns) x 0 t e) (whole_budget_left budget) r);
}
  where
    whole_budget_left : (b : ℕ) → b - 0 ≡ b
    whole_budget_left b = omega arith

-- the cost row's right side
module _ (p : FeasibilityProblem Rational) (t : SimplexTable Rational) (columns : List Terms) (limit : ℕ) (rows : List WholeRowView)
    (basis : List ℕ) (s : Represents p t columns limit rows basis) where
  cost_named : IsRatio (t.entry (length basis) (length columns + length basis)) (right_side_of (length basis) rows (length basis))
      (whole_row_at rows (length basis)).denominator
  cost_named = (s.shows.row (length basis) (omega arith)).named (length basis) (omega arith)

  pub done_here : right_side_of (length basis) rows (length basis) ≡ pos 0 → IsDone rationals (length basis) (length columns) t
  done_here e = null_named (t.entry (length basis) (length columns + length basis)) (whole_row_at rows (length basis)).denominator
      (s.shows.row (length basis) (omega arith)).some
      (subst (λ (z : ℤ). IsRatio (t.entry (length basis) (length columns + length basis)) z (whole_row_at rows (length basis)).denominator) e cost_named)

  pub not_done_here : ¬ (right_side_of (length basis) rows (length basis) ≡ pos 0) → ¬ (IsDone rationals (length basis) (length columns) t)
  not_done_here n d = n (number_null (right_side_of (length basis) rows (length basis))
      (t.entry (length basis) (length columns + length basis)) (whole_row_at rows (length basis)).denominator cost_named
      (ap (λ (q : Rational). q.num) d ∙ zero_parts.0))

module _ (columns : List Terms) (limit : ℕ) (old : List WholeRowView) (basis : List ℕ) (budget : ℕ) (now : List WholeRowView) (now_basis : List ℕ) (k : ℕ)
    (w : IsRunUnderWay columns limit old basis budget now now_basis k) where
  -- the claims about the present height hold for the first height
  by_same_height : (P : ℕ → Type 0) → P (length now_basis) → P (length basis)
  by_same_height P x = subst P w.height x

  pub run_ends_done : right_side_of (length now_basis) now (length now_basis) ≡ pos 0 → IsFinished columns limit old basis (Some budget) now now_basis Weights
  run_ends_done e = record {
    engine = w.engine;
    height = w.height;
    runs = λ p t s. let r = w.runs p t s in (
      r.0,
      r.1,
      r.2 _ (run_done (length basis) (length columns) (budget - k) k r.0
          (by_same_height (λ m. IsDone rationals m (length columns) r.0) (done_here p r.0 columns limit now now_basis r.1 e))),
    );
  }

  pub run_ends_stuck : ¬ (right_side_of (length now_basis) now (length now_basis) ≡ pos 0)
      → ((p : FeasibilityProblem Rational) (t : SimplexTable Rational) → Represents p t columns limit now now_basis
      → IsStuck rationals (length now_basis) (length columns) t)
      → IsFinished columns limit old basis (Some budget) now now_basis Point
  run_ends_stuck n u = record {
    engine = w.engine;
    height = w.height;
    runs = λ p t s. let r = w.runs p t s in (
      r.0,
      r.1,
      r.2 _ (run_stuck (length basis) (length columns) (budget - k) k r.0 r.0
          (by_same_height (λ m. ¬ (IsDone rationals m (length columns) r.0)) (not_done_here p r.0 columns limit now now_basis r.1 n))
          (by_same_height (λ m. IsStuck rationals m (length columns) r.0) (u p r.0 r.1)) refl),
    );
  }

  pub run_ends_at_budget : ¬ (right_side_of (length now_basis) now (length now_basis) ≡ pos 0) → k ≡ budget
      → ((p : FeasibilityProblem Rational) (t : SimplexTable Rational) → Represents p t columns limit now now_basis
      → ¬ (IsStuck rationals (length now_basis) (length columns) t))
      → IsFinished columns limit old basis (Some budget) now now_basis (Pivots budget)
  run_ends_at_budget n e u = record {
    engine = w.engine;
    height = w.height;
    runs = λ p t s. let r = w.runs p t s in (
      r.0,
      r.1,
      r.2 _ (subst (λ (x : ℕ). Reaches (length basis) (length columns) (budget - k) k r.0 (Rattle.it_run.specs.Runs.RunEndView.Pivots x)) e
          (run_budget (length basis) (length columns) (budget - k) k r.0 (omega (arith, e))
          (by_same_height (λ m. ¬ (IsDone rationals m (length columns) r.0)) (not_done_here p r.0 columns limit now now_basis r.1 n))
          (by_same_height (λ m. ¬ (IsStuck rationals m (length columns) r.0)) (u p r.0 r.1)))),
    );
  }

  pub step_is_made : (new : List WholeRowView) (new_basis : List ℕ) → ¬ (right_side_of (length now_basis) now (length now_basis) ≡ pos 0)
      → k < budget → IsEngineStep columns limit now now_basis new new_basis
      → IsRunUnderWay columns limit old basis budget new new_basis (k + 1)
  step_is_made new new_basis n h g = record {
    engine = g.engine;
    height = g.height ∙ w.height;
    runs = λ p t s.
        let r = w.runs p t s in
        let made = g.made p r.0 r.1 in (
          next rationals (length now_basis) (length columns) r.0,
          made.stands,
          λ e q. r.2 e
              (run_more (length basis) (length columns) (budget - k) k r.0 (next rationals (length now_basis) (length columns) r.0) e (omega (arith, h))
              (by_same_height (λ m. ¬ (IsDone rationals m (length columns) r.0)) (not_done_here p r.0 columns limit now now_basis r.1 n))
              (by_same_height (λ m. ¬ (IsStuck rationals m (length columns) r.0)) made.moves)
              (by_same_height (λ m. Rattle.it_run.specs.Solving.StepFits m (length columns) r.0) made.fits)
              (ap (λ m. next rationals m (length columns) r.0) w.height)
              (subst (λ (x : ℕ). Reaches (length basis) (length columns) x (k + 1)
              (next rationals (length now_basis) (length columns) r.0) e) (one_step_less budget k) q)),
        );
  }
    where
      one_step_less : (b k : ℕ) → b - (k + 1) ≡ b - k - 1
      one_step_less b k = omega arith

  pub steps_are_made : (new : List WholeRowView) (new_basis : List ℕ) (made : ℕ) → k + made ≤ budget
      → AreEngineSteps columns limit now now_basis made new new_basis
      → IsRunUnderWay columns limit old basis budget new new_basis (k + made)
  steps_are_made new new_basis made h g = record {
    engine = g.engine;
    height = g.height ∙ w.height;
    runs = λ p t s.
        let r = w.runs p t s in
        let x = g.made p r.0 r.1 in (
          x.0,
          x.1,
          λ e q. r.2 e
              (steps_lead_on (length basis) (length columns) made (budget - k) k r.0 x.0 e (omega (arith, h))
              (by_same_height (λ m. StepsLead m (length columns) made r.0 x.0) x.2)
              (subst (λ (y : ℕ). Reaches (length basis) (length columns) y (k + made) x.0 e) (steps_less budget k made) q)),
        );
  }
    where
      steps_less : (b k i : ℕ) → b - (k + i) ≡ b - k - i
      steps_less b k i = omega arith

-- where a column has a cost below 0 the run isn't stuck
pub not_stuck_here : (p : FeasibilityProblem Rational) (t : SimplexTable Rational) (columns : List Terms) (limit : ℕ)
    (rows : List WholeRowView) (basis : List ℕ) (c : ℕ) → Represents p t columns limit rows basis
    → c < length columns → first_negative_cost columns (whole_row_at rows (length basis)).numbers ≡ c → ¬ (IsStuck rationals (length basis) (length columns) t)
not_stuck_here p t columns limit rows basis c s h e = Rattle.it_run.proofs.RunSteps.not_stuck_with_entering (length basis) (length columns) t c
    record { within = h; is = entering_same p t columns limit rows basis s ∙ e }
