-- A run has one end, and what its steps keep holds there.
use Rattle.std.proofs.Common.{ap, List, ◌≡◌, ◌⊎◌, inl, inr, ℕ, zero, suc, refl, sym, ◌∙◌, subst}
use Rattle.it_rational.specs.OrderedFields.{OrderedField}
use Rattle.it_tableau.specs.FieldOperations.{operations_of}
use Rattle.it_tableau.specs.SimplexTables.{SimplexTable, FeasibilityProblem, start}
use Rattle.it_tableau.specs.Invariants.{HasInvariants}
use Rattle.it_tableau.proofs.Kept.{pivot_keeps_invariants}
use Rattle.it_tableau.proofs.StartLemmas.{start_has_invariants}
use Rattle.it_run.specs.Choice.{next, entering_column, leaving_row, IsDone, IsStuck}
use Rattle.it_run.specs.Readings.{weights, point, SumsUp, Separates}
use Rattle.it_run.specs.Runs.{RunEndView, EndsAs, clip_number}
use Rattle.it_run.specs.Runs.RunEndView.{Weights, Point, Pivots, Width}
use Rattle.it_run.proofs.BlandRule.{entering_is, some_column, leaving_is, may_enter}
use Rattle.it_run.proofs.Ends.{weights_right, point_right}

module _ {S W P : Type 0} (IsDone IsStuck Fits : S → Type 0) (next : S → S) (weights : S → W) (point : S → P) where
  -- the end of a run, by the number of steps left
  abbrev Run : ℕ → ℕ → S → RunEndView W P → Type 0
  Run = EndsAs IsDone IsStuck Fits next weights point

  -- a run has one end
  pub one_end : (left k : ℕ) (s : S) (d e : RunEndView W P) → Run left k s d → Run left k s e → d ≡ e
  one_end zero k s d e (inl p) (inl q) = p.1 ∙ sym q.1
  one_end zero k s d e (inl p) (inr (inl q)) = absurd (q.0 p.0)
  one_end zero k s d e (inl p) (inr (inr q)) = absurd (q.0 p.0)
  one_end zero k s d e (inr (inl p)) (inl q) = absurd (p.0 q.0)
  one_end zero k s d e (inr (inl p)) (inr (inl q)) = p.2 ∙ sym q.2
  one_end zero k s d e (inr (inl p)) (inr (inr q)) = absurd (q.1 p.1)
  one_end zero k s d e (inr (inr p)) (inl q) = absurd (p.0 q.0)
  one_end zero k s d e (inr (inr p)) (inr (inl q)) = absurd (p.1 q.1)
  one_end zero k s d e (inr (inr p)) (inr (inr q)) = p.2 ∙ sym q.2
  one_end (suc left) k s d e (inl p) (inl q) = p.1 ∙ sym q.1
  one_end (suc left) k s d e (inl p) (inr (inl q)) = absurd (q.0 p.0)
  one_end (suc left) k s d e (inl p) (inr (inr q)) = absurd (q.0 p.0)
  one_end (suc left) k s d e (inr (inl p)) (inl q) = absurd (p.0 q.0)
  one_end (suc left) k s d e (inr (inl p)) (inr (inl q)) = p.2 ∙ sym q.2
  one_end (suc left) k s d e (inr (inl p)) (inr (inr q)) = absurd (q.1 p.1)
  one_end (suc left) k s d e (inr (inr p)) (inl q) = absurd (p.0 q.0)
  one_end (suc left) k s d e (inr (inr p)) (inr (inl q)) = absurd (p.1 q.1)
  one_end (suc left) k s d e (inr (inr p)) (inr (inr q)) = by_cases p.2 q.2 (λ a b. one_end left (suc k) (next s) d e a b)
    where
      by_cases : ((¬ (Fits s) × (d ≡ Width (clip_number (suc k)))) ⊎ (Fits s × Run left (suc k) (next s) d))
          → ((¬ (Fits s) × (e ≡ Width (clip_number (suc k)))) ⊎ (Fits s × Run left (suc k) (next s) e))
          → (Run left (suc k) (next s) d → Run left (suc k) (next s) e → d ≡ e) → d ≡ e
      by_cases (inl a) (inl b) ih = a.1 ∙ sym b.1
      by_cases (inl a) (inr b) ih = absurd (a.0 b.0)
      by_cases (inr a) (inl b) ih = absurd (b.0 a.0)
      by_cases (inr a) (inr b) ih = ih a.1 b.1

  -- where a run's end comes from, if each step keeps I
  module _ (I : S → Type 0) where
    -- the end is read off a state with I, or it is a number alone
    abbrev pub EndComesFrom : RunEndView W P → Type 0
    EndComesFrom (Weights w) = (s : S) × I s × IsDone s × (w ≡ weights s)
    EndComesFrom (Point q) = (s : S) × I s × ¬ (IsDone s) × IsStuck s × (q ≡ point s)
    EndComesFrom (Pivots j) = Unit {0}
    EndComesFrom (Width j) = Unit {0}

    comes_from_equal : (d e : RunEndView W P) → e ≡ d → EndComesFrom d → EndComesFrom e
    comes_from_equal d e q c = subst EndComesFrom (sym q) c

    pub end_comes_from : ((s : S) → I s → ¬ (IsDone s) → ¬ (IsStuck s) → I (next s)) → (left k : ℕ) (s : S) (e : RunEndView W P) → I s
        → Run left k s e → EndComesFrom e
    end_comes_from keeps zero k s e i (inl p) = comes_from_equal (Weights (weights s)) e p.1 (s, i, p.0, refl)
    end_comes_from keeps zero k s e i (inr (inl p)) = comes_from_equal (Point (point s)) e p.2 (s, i, p.0, p.1, refl)
    end_comes_from keeps zero k s e i (inr (inr p)) = comes_from_equal (Pivots k) e p.2 tt
    end_comes_from keeps (suc left) k s e i (inl p) = comes_from_equal (Weights (weights s)) e p.1 (s, i, p.0, refl)
    end_comes_from keeps (suc left) k s e i (inr (inl p)) = comes_from_equal (Point (point s)) e p.2 (s, i, p.0, p.1, refl)
    end_comes_from keeps (suc left) k s e i (inr (inr p)) = by_cases p.2 (λ r. end_comes_from keeps left (suc k) (next s) e (keeps s i p.0 p.1) r)
      where
        by_cases : ((¬ (Fits s) × (e ≡ Width (clip_number (suc k)))) ⊎ (Fits s × Run left (suc k) (next s) e))
            → (Run left (suc k) (next s) e → EndComesFrom e) → EndComesFrom e
        by_cases (inl a) ih = comes_from_equal (Width (clip_number (suc k))) e a.1 tt
        by_cases (inr a) ih = ih a.1

module _ {A : Type 0} (F : OrderedField A) (m n : ℕ) where
  -- a step of the run keeps the invariants
  pub next_holds : (p : FeasibilityProblem A) (t : SimplexTable A) → HasInvariants (operations_of F) m n p t
      → ¬ (IsStuck (operations_of F) m n t) → HasInvariants (operations_of F) m n p (next (operations_of F) m n t)
  next_holds p t h s =
      let e = entering_is F m n t (some_column F m n t s) in
      let l = leaving_is F m n p t (entering_column (operations_of F) m n t) h e.below in
      pivot_keeps_invariants F m n p t (leaving_row (operations_of F) m n t (entering_column (operations_of F) m n t))
      (entering_column (operations_of F) m n t) h (may_enter F m n t (entering_column (operations_of F) m n t)
      (leaving_row (operations_of F) m n t (entering_column (operations_of F) m n t)) e l)

-- the weights or the point, read off the last table of a run
module _ {S W P : Type 0} (IsDone IsStuck Fits : S → Type 0) (next : S → S) (weights : S → W) (point : S → P) where
  -- the end with what is read off its state
  abbrev pub with_readings : RunEndView S S → RunEndView W P
  with_readings (Weights s) = Weights (weights s)
  with_readings (Point s) = Point (point s)
  with_readings (Pivots k) = Pivots k
  with_readings (Width k) = Width k

  pub end_with_readings : (left k : ℕ) (s : S) (e : RunEndView S S) → EndsAs IsDone IsStuck Fits next (λ s. s) (λ s. s) left k s e
      → EndsAs IsDone IsStuck Fits next weights point left k s (with_readings e)
  end_with_readings zero k s e (inl p) = inl (p.0, ap with_readings p.1)
  end_with_readings zero k s e (inr (inl p)) = inr (inl (p.0, p.1, ap with_readings p.2))
  end_with_readings zero k s e (inr (inr p)) = inr (inr (p.0, p.1, ap with_readings p.2))
  end_with_readings (suc left) k s e (inl p) = inl (p.0, ap with_readings p.1)
  end_with_readings (suc left) k s e (inr (inl p)) = inr (inl (p.0, p.1, ap with_readings p.2))
  end_with_readings (suc left) k s e (inr (inr p)) = inr (inr (p.0, p.1, by_cases p.2 (λ r. end_with_readings left (suc k) (next s) e r)))
    where
      by_cases : ((¬ (Fits s) × (e ≡ Width (clip_number (suc k)))) ⊎ (Fits s × EndsAs IsDone IsStuck Fits next (λ s. s) (λ s. s) left (suc k) (next s) e))
          → (EndsAs IsDone IsStuck Fits next (λ s. s) (λ s. s) left (suc k) (next s) e
          → EndsAs IsDone IsStuck Fits next weights point left (suc k) (next s) (with_readings e))
          → ((¬ (Fits s) × (with_readings e ≡ Width (clip_number (suc k))))
          ⊎ (Fits s × EndsAs IsDone IsStuck Fits next weights point left (suc k) (next s) (with_readings e)))
      by_cases (inl a) ih = inl (a.0, ap with_readings a.1)
      by_cases (inr a) ih = inr (a.0, ih a.1)

module _ {A : Type 0} (F : OrderedField A) (m n : ℕ) where
  -- weights sum to the target, and a point separates it from the columns
  abbrev pub EndIsRight : FeasibilityProblem A → RunEndView (List (ℕ × A)) (List A) → Type 0
  EndIsRight p (Weights ws) = SumsUp (operations_of F) m n p ws
  EndIsRight p (Point q) = Separates (operations_of F) m n p q
  EndIsRight p (Pivots j) = Unit {0}
  EndIsRight p (Width j) = Unit {0}

  -- the end of a run from the start is right
  pub run_right : (Fits : SimplexTable A → Type 0) (p : FeasibilityProblem A) (budget : ℕ) (e : RunEndView (List (ℕ × A)) (List A))
      → EndsAs (IsDone (operations_of F) m n) (IsStuck (operations_of F) m n) Fits (next (operations_of F) m n)
      (weights (operations_of F) m n) (point (operations_of F) m n p) budget zero (start (operations_of F) m n p) e → EndIsRight p e
  run_right Fits p budget e r = for_each e
      (end_comes_from (IsDone (operations_of F) m n) (IsStuck (operations_of F) m n) Fits (next (operations_of F) m n)
      (weights (operations_of F) m n) (point (operations_of F) m n p) (HasInvariants (operations_of F) m n p)
      (λ t h d s. next_holds F m n p t h s) budget zero (start (operations_of F) m n p) e (start_has_invariants F m n p) r)
    where
      for_each : (e : RunEndView (List (ℕ × A)) (List A)) → EndComesFrom (IsDone (operations_of F) m n) (IsStuck (operations_of F) m n) Fits
          (next (operations_of F) m n) (weights (operations_of F) m n) (point (operations_of F) m n p)
          (HasInvariants (operations_of F) m n p) e → EndIsRight p e
      for_each (Weights w) c = subst (SumsUp (operations_of F) m n p) (sym c.3) (weights_right F m n p c.0 c.1 c.2)
      for_each (Point w) c = subst (Separates (operations_of F) m n p) (sym c.4) (point_right F m n p c.0 c.1 c.2 c.3)
      for_each (Pivots j) c = tt
      for_each (Width j) c = tt
