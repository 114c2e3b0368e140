-- The answer of a run of the engine.
use Rattle.std.proofs.Common.{◌≡◌, ℕ, List, Option, Some, None, Result, length, sym, ap, subst, ◌∙◌}
use Rattle.std.specs.Option.{IfSome}
use Rattle.std.specs.Result.{IfOk}
use Rattle.it_rational.specs.Rational.{Rational}
use Rattle.it_space.specs.Rows.{Terms}
use Rattle.it_tableau.specs.TableauViews.{start_of}
use Rattle.it_tableau.specs.Operations.{rationals}
use Rattle.it_tableau.specs.Problems.{feasibility_problem}
use Rattle.it_tableau.specs.SimplexTables.{SimplexTable}
use Rattle.it_run.specs.Answers.{end_of_answer}
use Rattle.it_run.specs.Readings.{weights, point}
use Rattle.it_run.specs.Runs.RunEndView.{Weights, Point, Pivots}
use Rattle.it_run.specs.Solving.{RunsTo}
use Rattle.it_run.specs.declared.answering.Solved.{Solved}
use Rattle.it_run.proofs.AnswerLemmas.{if_ok, read_run}
use Rattle.it_engine.specs.Answers.{RunsFromStart}
use Rattle.it_engine.specs.Ends.{AnswersFrom, AreWeightsOf, IsPointOf, IsStart}
use Rattle.it_engine.specs.Engine.{EngineView, Represents, IsFinished}
use Rattle.it_whole.specs.WholeRows.{WholeRowView}
use Rattle.it_engine.specs.declared.engine.EngineEnd.TheVariants as engine_ends

pub if_some_more : {X : Type 0} (o : Option X) (P Q : X → Type 0) → IfSome o P → ((x : X) → P x → Q x) → IfSome o Q
if_some_more None P Q h f = tt
if_some_more (Some x) P Q h f = f x h

pub of_some : {X : Type 0} (o : Option X) (x : X) (P : X → Type 0) → o ≡ Some x → IfSome o P → P x
of_some o x P e h = subst (λ (o : Option _). IfSome o P) e h

module _ (coordinates : List ℕ) (target : Terms) (columns : List Terms) (limit : ℕ) (old : List WholeRowView) (basis : List ℕ)
    (budget : Option ℕ) (new : List WholeRowView) (new_basis : List ℕ) where
  pub by_weights : (ws : List (ℕ × Rational)) → IsFinished columns limit old basis budget new new_basis engine_ends.Weights
      → AreWeightsOf columns new new_basis ws
      → (generators : List Terms) (t : SimplexTable Rational) → Represents (feasibility_problem coordinates generators target) t columns limit old basis
      → RunsTo (length basis) (length columns) (feasibility_problem coordinates generators target) budget t (Weights ws)
  by_weights ws f w generators t s = let p = feasibility_problem coordinates generators target in let r = f.runs p t s in
      subst (λ (ws : List (ℕ × Rational)). RunsTo (length basis) (length columns) p budget t (Weights ws))
      (sym (w p r.0 limit r.1 ∙ ap (λ m. weights rationals m (length columns) r.0) f.height))
      (read_run (length basis) (length columns) p budget t (Weights r.0) r.2)

  pub by_point : (q : List Rational) → IsFinished columns limit old basis budget new new_basis engine_ends.Point → IsPointOf coordinates target new new_basis q
      → (generators : List Terms) (t : SimplexTable Rational) → Represents (feasibility_problem coordinates generators target) t columns limit old basis
      → RunsTo (length basis) (length columns) (feasibility_problem coordinates generators target) budget t (Point q)
  by_point q f w generators t s = let p = feasibility_problem coordinates generators target in let r = f.runs p t s in
      subst (λ (q : List Rational). RunsTo (length basis) (length columns) p budget t (Point q))
      (sym (w generators r.0 columns limit r.1 ∙ ap (λ m. point rationals m (length columns) p r.0) f.height))
      (read_run (length basis) (length columns) p budget t (Point r.0) r.2)

  pub by_budget : (k : ℕ) → IsFinished columns limit old basis budget new new_basis (engine_ends.Pivots k)
      → (generators : List Terms) (t : SimplexTable Rational) → Represents (feasibility_problem coordinates generators target) t columns limit old basis
      → RunsTo (length basis) (length columns) (feasibility_problem coordinates generators target) budget t (Pivots k)
  by_budget k f generators t s = let p = feasibility_problem coordinates generators target in let r = f.runs p t s
      in read_run (length basis) (length columns) p budget t (Pivots k) r.2

-- from the start
module _ (cs : List ℕ) (generators : List Terms) (target : Terms) (columns : List Terms) (limit : ℕ) (engine : EngineView)
    (s : IsStart cs generators target columns limit engine) (budget : Option ℕ) where
  answer_from_start : (solved : Solved) → AnswersFrom cs target columns limit engine budget solved → RunsFromStart cs generators target budget solved
  answer_from_start solved a = let p = feasibility_problem cs generators target in let t = start_of cs generators target in record {
    fits = s.fits;
    ends = subst (λ (m : ℕ). RunsTo m (length generators) p budget t (end_of_answer solved)) s.height
        (subst (λ (n : ℕ). RunsTo (length engine.basis) n p budget t (end_of_answer solved)) s.count (a generators t s.stands));
  }

  pub answers_from_start : {E : Type 0} (result : Result (Option Solved) E)
      → IfOk result (λ o. IfSome o (AnswersFrom cs target columns limit engine budget))
      → IfOk result (λ o. IfSome o (RunsFromStart cs generators target budget))
  answers_from_start result h = if_ok result (λ o. IfSome o (AnswersFrom cs target columns limit engine budget))
      (λ o. IfSome o (RunsFromStart cs generators target budget)) h
      (λ o h. if_some_more o (AnswersFrom cs target columns limit engine budget) (RunsFromStart cs generators target budget) h answer_from_start)
