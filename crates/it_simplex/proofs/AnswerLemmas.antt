-- From a run to the answer of a question.
use Rattle.std.proofs.Common.{◌≡◌, ◌≢◌, inl, inr, ℕ, zero, pos, negsuc, if◌then◌else◌, Bool, true, false, not, cond, List, length, slice_index_or, Option, Some, None, refl, sym, ap, ap₂, subst, ◌∙◌, arith}
use Rattle.std.specs.Option.{IfNone}
use Rattle.it_rational.specs.Rational.{Rational, integer, minus, is_at_least_zero}
use Rattle.it_rational.proofs.Field.{field_ℚ}
use Rattle.it_space.specs.Rows.{Terms, coefficient}
use Rattle.it_tableau.specs.Operations.{rationals}
use Rattle.it_tableau.specs.Fits.{StartFits}
use Rattle.it_tableau.specs.Problems.{feasibility_problem}
use Rattle.it_tableau.specs.TableauViews.{TableauView, height, table, IsStart, start_of}
use Rattle.it_tableau.specs.SimplexTables.{SimplexTable, start}
use Rattle.it_run.specs.Answers.{end_of_answer, HasSigns, IsStartOf, RunsFrom}
use Rattle.it_run.specs.Choice.{next, IsDone, IsStuck}
use Rattle.it_run.specs.Readings.{weights, point}
use Rattle.it_run.specs.Runs.{RunEndView}
use Rattle.it_run.specs.Runs.RunEndView.{Weights, Point, Pivots, Width}
use Rattle.it_run.specs.Solving.{RunsTo, StepFits}
use Rattle.it_run.specs.declared.answering.Solved.{Solved}
use Rattle.it_run.specs.declared.answering.Solved.TheVariants as answers
use Rattle.it_run.proofs.BudgetLemmas.{one_end_by, right_by}
use Rattle.it_run.proofs.RunLemmas.{EndIsRight}
use Rattle.it_run.proofs.SignLemmas.{minus_one}
use Rattle.it_simplex.specs.Answers.{IsRightSolved, Solves}

-- an end at which weights or a point are read off
abbrev IsReading : RunEndView (List (ℕ × Rational)) (List Rational) → Type 0
IsReading (Weights ws) = Unit {0}
IsReading (Point q) = Unit {0}
IsReading (Pivots k) = ⊥
IsReading (Width k) = ⊥

module _ (cs : List ℕ) (columns : List Terms) (target : Terms) (t : TableauView) (s : IsStart cs columns target t) where
  -- the claims about the start's sizes and table hold for the tableau's
  by_start : (P : ℕ → ℕ → SimplexTable Rational → Type 0) → P (height t) t.generator_columns (table t)
      → P (length cs) (length columns) (start_of cs columns target)
  by_start P x = subst (P (length cs) (length columns)) s.table_is (subst (λ (n : ℕ). P (length cs) n (table t)) s.generator_columns_are
      (subst (λ (m : ℕ). P m t.generator_columns (table t)) s.height_is x))

  sign_of_not : (b : Bool) → integer (if not b then negsuc 0 else pos 1) ≡ cond b (integer (pos 1)) (minus (integer (pos 1)))
  sign_of_not true = refl
  sign_of_not false = sym minus_one

  start_signs : HasSigns t (feasibility_problem cs columns target)
  start_signs k l = ap (λ b. integer (if b then negsuc 0 else pos 1)) (s.signs_are k (omega (arith, s.height_is)))
      ∙ sign_of_not (is_at_least_zero (integer (coefficient target (slice_index_or cs k 0))))

  -- the tableau is the start of the question's problem
  pub start_is_of_problem : IsStartOf (feasibility_problem cs columns target) t
  start_is_of_problem = record {
    table_is = s.table_is ∙ ap₂ (λ m n. start rationals m n (feasibility_problem cs columns target)) (sym s.height_is) (sym s.generator_columns_are);
    signs = start_signs;
  }

  -- the run from the tableau is that from the start
  run_from_start : (budget : Option ℕ) (a : Solved) → RunsFrom t budget a
      → RunsTo (length cs) (length columns) (feasibility_problem cs columns target) budget (start_of cs columns target) (end_of_answer a)
  run_from_start budget a r = by_start (λ m n t. RunsTo m n (feasibility_problem cs columns target) budget t (end_of_answer a))
      (r (feasibility_problem cs columns target) start_is_of_problem)

  pub run_solves : (budget : Option ℕ) (a : Solved) → StartFits (length cs) (length columns) (feasibility_problem cs columns target)
      → RunsFrom t budget a → Solves cs columns target budget (end_of_answer a)
  run_solves budget a f r = inr (f, run_from_start budget a r)

pub answer_is_right : (cs : List ℕ) (columns : List Terms) (target : Terms) (budget : Option ℕ) (a : Solved)
    → Solves cs columns target budget (end_of_answer a) → IsRightSolved cs columns target a
answer_is_right cs columns target budget a (inl s) = without_start a s.1
  where
    without_start : (a : Solved) → end_of_answer a ≡ Width zero → IsRightSolved cs columns target a
    without_start (answers.Weights ws) e = absurd (subst IsReading e tt)
    without_start (answers.Point q) e = absurd (subst IsReading e tt)
    without_start (answers.Pivots k) e = tt
    without_start (answers.Width k) e = tt
answer_is_right cs columns target budget a (inr s) = from_end a (right_by field_ℚ (length cs) (length columns)
    (StepFits (length cs) (length columns)) (feasibility_problem cs columns target) budget (end_of_answer a) s.1)
  where
    from_end : (a : Solved) → EndIsRight field_ℚ (length cs) (length columns) (feasibility_problem cs columns target) (end_of_answer a)
        → IsRightSolved cs columns target a
    from_end (answers.Weights ws) x = x
    from_end (answers.Point q) x = x
    from_end (answers.Pivots k) x = tt
    from_end (answers.Width k) x = tt

pub if_none : (o : Option ℕ) (P : Type 0) → (o ≡ None → P) → IfNone o P
if_none None P f = f refl
if_none (Some k) P f = tt

-- without a budget the answer is never `Pivots`
pub ends_within_budget : (cs : List ℕ) (columns : List Terms) (target : Terms) (e : RunEndView (List (ℕ × Rational)) (List Rational))
    → Solves cs columns target None e → (k : ℕ) → e ≢ Pivots k
ends_within_budget cs columns target e (inl a) = λ k q. let h = a.1 in cc
ends_within_budget cs columns target e (inr a) = a.1.2

-- the run has one end, and so has the answer
pub ends_once : (cs : List ℕ) (columns : List Terms) (target : Terms) (budget : Option ℕ) (d e : RunEndView (List (ℕ × Rational)) (List Rational))
    → Solves cs columns target budget d → Solves cs columns target budget e → d ≡ e
ends_once cs columns target budget d e (inl a) (inl b) = a.1 ∙ sym b.1
ends_once cs columns target budget d e (inl a) (inr b) = absurd (a.0 b.0)
ends_once cs columns target budget d e (inr a) (inl b) = absurd (b.0 a.0)
ends_once cs columns target budget d e (inr a) (inr b) =
    let m = length cs in let n = length columns in
    one_end_by (IsDone rationals m n) (IsStuck rationals m n) (StepFits m n) (next rationals m n) (weights rationals m n)
    (point rationals m n (feasibility_problem cs columns target))
    budget (start_of cs columns target) d e a.1 b.1
