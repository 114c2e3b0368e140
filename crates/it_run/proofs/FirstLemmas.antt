-- The end of a run by recursion on its budget is its end at the first number of steps.
use Rattle.std.proofs.Common.{◌≡◌, ◌≢◌, ◌⊎◌, inl, inr, ℕ, zero, suc, ◌+◌, ◌-◌, ◌<◌, ◌≤◌, Option, Some, None, refl, sym, ap, subst, arith}
use Rattle.std.proofs.lemmas.Bool.{cases_eq, cases_lt}
use Rattle.it_space.proofs.OptionLemmas.{some_same, none_is_not_some}
use Rattle.it_run.specs.Runs.{RunEndView, EndsAs, EndsBy, state_after_steps, clip_number}
use Rattle.it_run.specs.Runs.RunEndView.{Pivots, Width}
use Rattle.it_run.specs.FirstEnds.{EndsAt, EndsFirst, GoesOnAt}

module _ {S W P : Type 0} (IsDone IsStuck Fits : S → Type 0) (next : S → S) (weights : S → W) (point : S → P) where
  -- the end of a run, by the number of steps left
  abbrev Run : ℕ → ℕ → S → RunEndView W P → Type 0
  Run = EndsAs IsDone IsStuck Fits next weights point

  -- the end of a run at the first number of steps at which it doesn't go on
  abbrev First : Option ℕ → S → RunEndView W P → Type 0
  First = EndsFirst IsDone IsStuck Fits next weights point

  -- the run goes on after a number of steps
  abbrev On : Option ℕ → ℕ → S → Type 0
  On = GoesOnAt IsDone IsStuck Fits next weights point

  -- the run ends after a number of steps
  abbrev At : Option ℕ → ℕ → S → RunEndView W P → Type 0
  At = EndsAt IsDone IsStuck Fits next weights point

  -- the state after a number of steps
  abbrev state : S → ℕ → S
  state = state_after_steps next

  one_longer : (o : Option ℕ) (s : S) (k : ℕ) → ((j : ℕ) → j < k → On o j (state s j)) → On o k (state s k) → (j : ℕ) → j < suc k → On o j (state s j)
  one_longer o s k h x j l = by_cases (cases_eq j k)
    where
      by_cases : (j ≡ k) ⊎ (j ≡ k → ⊥) → On o j (state s j)
      by_cases (inl e) = subst (λ (i : ℕ). On o i (state s i)) (sym e) x
      by_cases (inr d) = h j (omega arith)

  -- with a budget
  first_bound : (b left k : ℕ) (s : S) (e : RunEndView W P) → k + left ≡ b → ((j : ℕ) → j < k → On (Some b) j (state s j))
      → Run left k (state s k) e → First (Some b) s e
  first_bound b zero k s e q h (inl r) = record { steps = k; before = h; here = inl r }
  first_bound b zero k s e q h (inr (inl r)) = record { steps = k; before = h; here = inr (inl r) }
  first_bound b zero k s e q h (inr (inr r)) = let x : b ≡ k = omega arith
      in record { steps = k; before = h; here = inr (inr (inl (r.0, r.1, ap (λ (y : ℕ). Some y) x, r.2))) }
  first_bound b (suc left) k s e q h (inl r) = record { steps = k; before = h; here = inl r }
  first_bound b (suc left) k s e q h (inr (inl r)) = record { steps = k; before = h; here = inr (inl r) }
  first_bound b (suc left) k s e q h (inr (inr r)) = by_cases r.2 (λ f. first_bound b left (suc k) s e (omega arith)
      (one_longer (Some b) s k h (r.0, r.1, budget_remains, f)))
    where
      budget_remains : Some b ≢ Some k
      budget_remains x = let y : b ≡ k = some_same b k x in omega arith

      by_cases : ((¬ (Fits (state s k)) × (e ≡ Width (clip_number (suc k)))) ⊎ (Fits (state s k) × Run left (suc k) (next (state s k)) e))
          → (Fits (state s k) → Run left (suc k) (state s (suc k)) e → First (Some b) s e) → First (Some b) s e
      by_cases (inl f) ih = record { steps = k; before = h; here = inr (inr (inr (r.0, r.1, budget_remains, f.0, f.1))) }
      by_cases (inr f) ih = ih f.0 f.1

  -- without one
  first_free : (left k : ℕ) (s : S) (e : RunEndView W P) → ((j : ℕ) → e ≢ Pivots j) → ((j : ℕ) → j < k → On None j (state s j))
      → Run left k (state s k) e → First None s e
  first_free zero k s e w h (inl r) = record { steps = k; before = h; here = inl r }
  first_free zero k s e w h (inr (inl r)) = record { steps = k; before = h; here = inr (inl r) }
  first_free zero k s e w h (inr (inr r)) = absurd (w k r.2)
  first_free (suc left) k s e w h (inl r) = record { steps = k; before = h; here = inl r }
  first_free (suc left) k s e w h (inr (inl r)) = record { steps = k; before = h; here = inr (inl r) }
  first_free (suc left) k s e w h (inr (inr r)) = by_cases r.2 (λ f. first_free left (suc k) s e w (one_longer None s k h (r.0, r.1, none_is_not_some k, f)))
    where
      by_cases : ((¬ (Fits (state s k)) × (e ≡ Width (clip_number (suc k)))) ⊎ (Fits (state s k) × Run left (suc k) (next (state s k)) e))
          → (Fits (state s k) → Run left (suc k) (state s (suc k)) e → First None s e) → First None s e
      by_cases (inl f) ih = record { steps = k; before = h; here = inr (inr (inr (r.0, r.1, none_is_not_some k, f.0, f.1))) }
      by_cases (inr f) ih = ih f.0 f.1

  -- back from step k to the first
  run_from_first_step : (o : Option ℕ) (x k : ℕ) (s : S) (e : RunEndView W P) → ((j : ℕ) → j < k → On o j (state s j))
      → Run x k (state s k) e → Run (k + x) 0 s e
  run_from_first_step o x zero s e h r = subst (λ (y : ℕ). Run y 0 s e) zero_plus r
    where
      zero_plus : x ≡ 0 + x
      zero_plus = omega arith
  run_from_first_step o x (suc k) s e h r = subst (λ (y : ℕ). Run y 0 s e) step_joins
      (run_from_first_step o (suc x) k s e (λ j l. h j (omega arith)) (let g = h k (omega arith) in inr (inr (g.0, g.1, inr (g.3, r)))))
    where
      step_joins : k + suc x ≡ suc k + x
      step_joins = omega arith

  free_first : (s : S) (e : RunEndView W P) → First None s e → EndsBy IsDone IsStuck Fits next weights point None s e
  free_first s e f = by_cases f.here
    where
      by_cases : At None f.steps (state s f.steps) e → EndsBy IsDone IsStuck Fits next weights point None s e
      by_cases (inl r) = (f.steps + 0, run_from_first_step None 0 f.steps s e f.before (inl r), λ k q. let h = r.1 in cc)
      by_cases (inr (inl r)) = (f.steps + 0, run_from_first_step None 0 f.steps s e f.before (inr (inl r)), λ k q. let h = r.2 in cc)
      by_cases (inr (inr (inl r))) = absurd (none_is_not_some f.steps r.2)
      by_cases (inr (inr (inr r))) = (
        f.steps + 1,
        run_from_first_step None 1 f.steps s e f.before
            (inr (inr (r.0, r.1, inl (r.3, r.4)))),
        λ k q. let h = r.4 in cc,
      )

  bound_first : (b : ℕ) (s : S) (e : RunEndView W P) → First (Some b) s e → Run b 0 s e
  bound_first b s e f = by_cases (cases_lt b f.steps) (b - f.steps) refl f.here
    where
      run_from_start : (x : ℕ) → f.steps ≤ b → b - f.steps ≡ x → Run x f.steps (state s f.steps) e → Run b 0 s e
      run_from_start x l q r = let y : f.steps + x ≡ b = omega arith in subst (λ (z : ℕ). Run z 0 s e) y (run_from_first_step (Some b) x f.steps s e f.before r)

      by_cases : (b < f.steps) ⊎ (f.steps ≤ b) → (x : ℕ) → b - f.steps ≡ x → At (Some b) f.steps (state s f.steps) e → Run b 0 s e
      by_cases (inl l) x q r = absurd ((f.before b l).2 refl)
      by_cases (inr l) zero q (inl r) = run_from_start zero l q (inl r)
      by_cases (inr l) (suc x) q (inl r) = run_from_start (suc x) l q (inl r)
      by_cases (inr l) zero q (inr (inl r)) = run_from_start zero l q (inr (inl r))
      by_cases (inr l) (suc x) q (inr (inl r)) = run_from_start (suc x) l q (inr (inl r))
      by_cases (inr l) zero q (inr (inr (inl r))) = run_from_start zero l q (inr (inr (r.0, r.1, r.3)))
      by_cases (inr l) (suc x) q (inr (inr (inl r))) = let y : b ≡ f.steps = some_same b f.steps r.2 in absurd (omega arith)
      by_cases (inr l) zero q (inr (inr (inr r))) = absurd (r.2 (ap (λ (y : ℕ). Some y) (let y : b ≡ f.steps = omega arith in y)))
      by_cases (inr l) (suc x) q (inr (inr (inr r))) = run_from_start (suc x) l q (inr (inr (r.0, r.1, inl (r.3, r.4))))

  pub ends_are_first : (budget : Option ℕ) (s : S) (e : RunEndView W P)
      → (EndsBy IsDone IsStuck Fits next weights point budget s e → First budget s e)
      × (First budget s e → EndsBy IsDone IsStuck Fits next weights point budget s e)
  ends_are_first (Some b) s e = (λ r. first_bound b b 0 s e (omega arith) (λ j l. absurd (omega arith)) r, λ f. bound_first b s e f)
  ends_are_first None s e = (λ r. first_free r.0 0 s e r.2 (λ j l. absurd (omega arith)) r.1, λ f. free_first s e f)
