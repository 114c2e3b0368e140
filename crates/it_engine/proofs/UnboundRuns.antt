-- A run of the engine without a budget under way.
use Rattle.std.proofs.Common.{◌≡◌, ◌≢◌, ℕ, suc, ◌+◌, ◌-◌, ◌<◌, ◌≤◌, pos, List, length, None, refl, subst, ap, ◌∙◌, arith}
use Rattle.it_rational.specs.Rational.{Rational}
use Rattle.it_space.specs.Rows.{Terms}
use Rattle.it_tableau.specs.Operations.{rationals}
use Rattle.it_tableau.specs.SimplexTables.{SimplexTable, FeasibilityProblem}
use Rattle.it_run.specs.Choice.{next, IsDone, IsStuck}
use Rattle.it_run.specs.Runs.{RunEndView}
use Rattle.it_run.specs.Runs.RunEndView.{Weights, Point, Pivots}
use Rattle.it_run.specs.Solving.{StepFits}
use Rattle.it_run.specs.Steps.{Reaches, ReachesBy}
use Rattle.it_run.proofs.RunSteps.{run_done, run_stuck, run_more}
use Rattle.it_engine.specs.Behind.{AreEngineSteps, StepsLead}
use Rattle.it_engine.specs.Choosing.{right_side_of}
use Rattle.it_engine.specs.Engine.{IsSafe, Represents, RepresentsSome, IsEngineStep, IsFinished}
use Rattle.it_whole.specs.WholeRows.{WholeRowView}
use Rattle.it_engine.specs.declared.engine.EngineEnd.TheVariants as engine_ends
use Rattle.it_engine.proofs.StepsLeft.{steps_left_to, steps_left_falls, several_steps_left}
use Rattle.it_engine.proofs.ManySteps.{steps_lead_on}
use Rattle.it_engine.proofs.Runs.{done_here, not_done_here}

-- an end of the run from s, after made steps, is an end of the run from t, with some budget
abbrev RunsOnFrom : ℕ → ℕ → SimplexTable Rational → ℕ → SimplexTable Rational → Type 0
RunsOnFrom m n t made s = (left : ℕ) (e : RunEndView (SimplexTable Rational) (SimplexTable Rational)) → Reaches m n left made s e
    → (budget : ℕ) × Reaches m n budget 0 t e

-- the run from a table has come to one that the engine shows
pub record ComesTo (p : FeasibilityProblem Rational) (columns : List Terms) (limit height : ℕ) (t : SimplexTable Rational)
    (now : List WholeRowView) (now_basis : List ℕ) : Type 0 where
  pub last : SimplexTable Rational
  pub stands : Represents p last columns limit now now_basis
  pub made : ℕ
  pub serves : RunsOnFrom height (length columns) t made last

-- the engine shows some table, and one that the run from the first comes to
pub record IsRunUnderWay (columns : List Terms) (limit : ℕ) (old : List WholeRowView) (basis : List ℕ) (now : List WholeRowView)
    (now_basis : List ℕ) : Type 0 where
  pub engine : IsSafe columns limit now now_basis
  pub height : length now_basis ≡ length basis
  pub some : RepresentsSome columns limit now now_basis
  pub runs : (p : FeasibilityProblem Rational) (t : SimplexTable Rational) → Represents p t columns limit old basis
      → ComesTo p columns limit (length basis) t now now_basis

pub run_begins : (columns : List Terms) (limit : ℕ) (old : List WholeRowView) (basis : List ℕ) → IsSafe columns limit old basis
    → RepresentsSome columns limit old basis → IsRunUnderWay columns limit old basis old basis
run_begins columns limit old basis h i = record {
  engine = h;
  height = refl;
  some = i;
  runs = λ p t s.
      record { last = t; stands = s; made = 0; serves = λ left e r. (left, r) };
}

module _ (columns : List Terms) (limit : ℕ) (old : List WholeRowView) (basis : List ℕ) (now : List WholeRowView) (now_basis : List ℕ)
    (w : IsRunUnderWay columns limit old basis now now_basis) where
  -- the claims about the present height hold for the first height
  by_same_height : (P : ℕ → Type 0) → P (length now_basis) → P (length basis)
  by_same_height P x = subst P w.height x

  run_ends : (t s : SimplexTable Rational) (made left : ℕ) (e : RunEndView (SimplexTable Rational) (SimplexTable Rational))
      → RunsOnFrom (length basis) (length columns) t made s → Reaches (length basis) (length columns) left made s e
      → ((k : ℕ) → e ≢ Pivots k)
      → ReachesBy (length basis) (length columns) None t e
  run_ends t s made left e f r i = let b = f left e r in (b.0, b.1, i)

  pub unbound_done : right_side_of (length now_basis) now (length now_basis) ≡ pos 0 → IsFinished columns limit old basis None now now_basis engine_ends.Weights
  unbound_done e = record {
    engine = w.engine;
    height = w.height;
    runs = λ p t s. let r = w.runs p t s in (
      r.last,
      r.stands,
      run_ends t r.last r.made 0 (Weights r.last) r.serves (run_done (length basis) (length columns) 0 r.made r.last
          (by_same_height (λ m. IsDone rationals m (length columns) r.last) (done_here p r.last columns limit now now_basis r.stands e))) (λ k q. cc),
    );
  }

  pub unbound_stuck : ¬ (right_side_of (length now_basis) now (length now_basis) ≡ pos 0)
      → ((p : FeasibilityProblem Rational) (t : SimplexTable Rational) → Represents p t columns limit now now_basis
      → IsStuck rationals (length now_basis) (length columns) t)
      → IsFinished columns limit old basis None now now_basis engine_ends.Point
  unbound_stuck n u = record {
    engine = w.engine;
    height = w.height;
    runs = λ p t s. let r = w.runs p t s in (
      r.last,
      r.stands,
      run_ends t r.last r.made 0 (Point r.last) r.serves (run_stuck (length basis) (length columns) 0 r.made r.last r.last
          (by_same_height (λ m. ¬ (IsDone rationals m (length columns) r.last)) (not_done_here p r.last columns limit now now_basis r.stands n))
          (by_same_height (λ m. IsStuck rationals m (length columns) r.last) (u p r.last r.stands)) refl) (λ k q. cc),
    );
  }

  pub step_is_made : (new : List WholeRowView) (new_basis : List ℕ) → ¬ (right_side_of (length now_basis) now (length now_basis) ≡ pos 0)
      → IsEngineStep columns limit now now_basis new new_basis
      → IsRunUnderWay columns limit old basis new new_basis
  step_is_made new new_basis n g = record {
    engine = g.engine;
    height = g.height ∙ w.height;
    some = (let i = w.some in (i.0, next rationals (length now_basis) (length columns) i.1, (g.made i.0 i.1 i.2).stands));
    runs = λ p t s.
        let r = w.runs p t s in
        let made = g.made p r.last r.stands in record {
          last = next rationals (length now_basis) (length columns) r.last;
          stands = made.stands;
          made = r.made + 1;
          serves = λ left e q. r.serves (suc left) e
              (run_more (length basis) (length columns) (suc left) r.made r.last (next rationals (length now_basis) (length columns) r.last) e (omega arith)
              (by_same_height (λ m. ¬ (IsDone rationals m (length columns) r.last)) (not_done_here p r.last columns limit now now_basis r.stands n))
              (by_same_height (λ m. ¬ (IsStuck rationals m (length columns) r.last)) made.moves)
              (by_same_height (λ m. StepFits m (length columns) r.last) made.fits)
              (ap (λ m. next rationals m (length columns) r.last) w.height)
              (subst (λ (x : ℕ). Reaches (length basis) (length columns) x (r.made + 1)
              (next rationals (length now_basis) (length columns) r.last) e) (one_step_less left) q));
        };
  }
    where
      one_step_less : (left : ℕ) → left ≡ suc left - 1
      one_step_less left = omega arith

  pub step_lowers_steps_left : (new : List WholeRowView) (new_basis : List ℕ) → IsEngineStep columns limit now now_basis new new_basis
      → steps_left_to columns new new_basis < steps_left_to columns now now_basis
  step_lowers_steps_left new new_basis g = let i = w.some in steps_left_falls i.0 i.1 columns limit now now_basis new new_basis i.2 g

  pub steps_are_made : (new : List WholeRowView) (new_basis : List ℕ) (made : ℕ)
      → AreEngineSteps columns limit now now_basis made new new_basis → IsRunUnderWay columns limit old basis new new_basis
  steps_are_made new new_basis made g = record {
    engine = g.engine;
    height = g.height ∙ w.height;
    some = (let i = w.some in let x = g.made i.0 i.1 i.2 in (i.0, x.0, x.1));
    runs = λ p t s.
        let r = w.runs p t s in
        let x = g.made p r.last r.stands in record {
          last = x.0;
          stands = x.1;
          made = r.made + made;
          serves = λ left e q. r.serves (left + made) e
              (steps_lead_on (length basis) (length columns) made (left + made) r.made r.last x.0 e (omega arith)
              (by_same_height (λ m. StepsLead m (length columns) made r.last x.0) x.2)
              (subst (λ (y : ℕ). Reaches (length basis) (length columns) y (r.made + made) x.0 e) (steps_back left made) q));
        };
  }
    where
      steps_back : (left made : ℕ) → left ≡ left + made - made
      steps_back left made = omega arith

  pub steps_lower_steps_left : (new : List WholeRowView) (new_basis : List ℕ) (made : ℕ)
      → AreEngineSteps columns limit now now_basis made new new_basis → steps_left_to columns new new_basis
      ≤ steps_left_to columns now now_basis
  steps_lower_steps_left new new_basis made g = let i = w.some in several_steps_left i.0 i.1 columns limit now now_basis made new new_basis i.2 g
