-- A run with a budget or none: what is read off its end, and that it has one end.
use Rattle.std.proofs.Common.{List, ◌≡◌, ◌≢◌, ◌⊎◌, inl, inr, ℕ, zero, suc, ◌+◌, Option, Some, None, refl, subst, arith}
use Rattle.it_rational.specs.OrderedFields.{OrderedField}
use Rattle.it_tableau.specs.FieldOperations.{operations_of}
use Rattle.it_tableau.specs.SimplexTables.{SimplexTable, FeasibilityProblem, start}
use Rattle.it_run.specs.Choice.{next, IsDone, IsStuck}
use Rattle.it_run.specs.Readings.{weights, point}
use Rattle.it_run.specs.Runs.{RunEndView, EndsAs, EndsBy, clip_number}
use Rattle.it_run.specs.Runs.RunEndView.{Weights, Point, Pivots, Width}
use Rattle.it_run.proofs.RunLemmas.{one_end, with_readings, end_with_readings, run_right, EndIsRight}

module _ {S W P : Type 0} (IsDone IsStuck Fits : S → Type 0) (next : S → S) (weights : S → W) (point : S → P) where
  -- the end of a run, by the number of steps left
  abbrev Run : ℕ → ℕ → S → RunEndView W P → Type 0
  Run = EndsAs IsDone IsStuck Fits next weights point

  -- a budget that isn't used up may be greater
  one_step_more : (left k : ℕ) (s : S) (e : RunEndView W P) → ((j : ℕ) → e ≢ Pivots j) → Run left k s e → Run (suc left) k s e
  one_step_more zero k s e i (inl p) = inl p
  one_step_more zero k s e i (inr (inl p)) = inr (inl p)
  one_step_more zero k s e i (inr (inr p)) = absurd (i k p.2)
  one_step_more (suc left) k s e i (inl p) = inl p
  one_step_more (suc left) k s e i (inr (inl p)) = inr (inl p)
  one_step_more (suc left) k s e i (inr (inr p)) = inr (inr (p.0, p.1, by_cases p.2 (λ r. one_step_more left (suc k) (next s) e i r)))
    where
      by_cases : ((¬ (Fits s) × (e ≡ Width (clip_number (suc k)))) ⊎ (Fits s × Run left (suc k) (next s) e))
          → (Run left (suc k) (next s) e → Run (suc left) (suc k) (next s) e)
          → ((¬ (Fits s) × (e ≡ Width (clip_number (suc k)))) ⊎ (Fits s × Run (suc left) (suc k) (next s) e))
      by_cases (inl a) ih = inl a
      by_cases (inr a) ih = inr (a.0, ih a.1)

  with_greater_budget : (x left : ℕ) (s : S) (e : RunEndView W P) → ((j : ℕ) → e ≢ Pivots j) → Run left zero s e → Run (x + left) zero s e
  with_greater_budget zero left s e i r = subst (λ (y : ℕ). Run y zero s e) no_steps r
    where
      no_steps : left ≡ zero + left
      no_steps = omega arith
  with_greater_budget (suc x) left s e i r = subst (λ (y : ℕ). Run y zero s e) step_joins
      (one_step_more (x + left) zero s e i (with_greater_budget x left s e i r))
    where
      step_joins : suc (x + left) ≡ suc x + left
      step_joins = omega arith

  -- a run with a budget or none has one end
  pub one_end_by : (budget : Option ℕ) (s : S) (d e : RunEndView W P) → EndsBy IsDone IsStuck Fits next weights point budget s d
      → EndsBy IsDone IsStuck Fits next weights point budget s e → d ≡ e
  one_end_by (Some budget) s d e a b = one_end IsDone IsStuck Fits next weights point budget zero s d e a b
  one_end_by None s d e a b = one_end IsDone IsStuck Fits next weights point (b.0 + a.0) zero s d e (with_greater_budget b.0 a.0 s d a.2 a.1)
      (subst (λ (y : ℕ). Run y zero s e) budgets_commute (with_greater_budget a.0 b.0 s e b.2 b.1))
    where
      budgets_commute : a.0 + b.0 ≡ b.0 + a.0
      budgets_commute = omega arith

  -- the end with what is read off its state
  abbrev read_off_end : RunEndView S S → RunEndView W P
  read_off_end = with_readings IsDone IsStuck Fits next weights point

  read_within : (e : RunEndView S S) → ((k : ℕ) → e ≢ Pivots k) → (k : ℕ) → read_off_end e ≢ Pivots k
  read_within (Weights w) i k q = cc
  read_within (Point p) i k q = cc
  read_within (Pivots j) i k q = i j refl
  read_within (Width j) i k q = cc

  -- what is read off the end
  pub read_by : (budget : Option ℕ) (s : S) (e : RunEndView S S) → EndsBy IsDone IsStuck Fits next (λ s. s) (λ s. s) budget s e
      → EndsBy IsDone IsStuck Fits next weights point budget s (read_off_end e)
  read_by (Some budget) s e r = end_with_readings IsDone IsStuck Fits next weights point budget zero s e r
  read_by None s e r = (r.0, end_with_readings IsDone IsStuck Fits next weights point r.0 zero s e r.1, read_within e r.2)

module _ {A : Type 0} (F : OrderedField A) (m n : ℕ) where
  -- the end of a run from the start is right
  pub right_by : (Fits : SimplexTable A → Type 0) (p : FeasibilityProblem A) (budget : Option ℕ) (e : RunEndView (List (ℕ × A)) (List A))
      → EndsBy (IsDone (operations_of F) m n) (IsStuck (operations_of F) m n) Fits (next (operations_of F) m n)
      (weights (operations_of F) m n) (point (operations_of F) m n p) budget (start (operations_of F) m n p) e → EndIsRight F m n p e
  right_by Fits p (Some budget) e r = run_right F m n Fits p budget e r
  right_by Fits p None e r = run_right F m n Fits p r.0 e r.1
