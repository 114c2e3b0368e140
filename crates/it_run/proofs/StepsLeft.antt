-- A run without a budget ends: the number of steps that are left to a table falls with each step.
use Rattle.std.proofs.Common.{◌≡◌, ℕ, zero, suc, ◌+◌, ◌^◌, ◌<◌, ◌≤◌, Bool, true, false, ltb, cond, refl, sym, ap, ◌∙◌, ◌⊎◌, inl, inr, arith}
use Rattle.std.proofs.lemmas.Bool.{cases_lt, cases_eq, cases_Bool, ltb-true, ltb-false, true≢false}
use Rattle.it_rational.proofs.Ordered.{not_both}
use Rattle.it_rational.specs.OrderedFields.{OrderedField}
use Rattle.it_tableau.specs.FieldOperations.{operations_of}
use Rattle.it_tableau.specs.SimplexTables.{SimplexTable, FeasibilityProblem}
use Rattle.it_tableau.specs.Invariants.{HasInvariants}
use Rattle.it_run.specs.Choice.{first_false, entering_column, next, IsStuck}
use Rattle.it_run.specs.Meetings.{table_after}
use Rattle.it_run.proofs.BlandRule.{Enters, first_before, first_at, entering_is}
use Rattle.it_run.proofs.RunLemmas.{next_holds}
use Rattle.it_run.proofs.Cycle.{never_again}
use Rattle.it_run.proofs.Pigeon.{pigeonhole, digits, digits_below, digits_tell}

module _ {A : Type 0} (F : OrderedField A) (m n : ℕ) where
  -- there are no more steps than lists of basic columns
  abbrev pub most_steps : ℕ
  most_steps = (n + m) ^ m

  basis_below : (p : FeasibilityProblem A) (t : SimplexTable A) → HasInvariants (operations_of F) m n p t → (i : ℕ) → i < m → t.basis i < n + m
  basis_below p t h i l = by_cases (h.own i l)
    where
      by_cases : (t.basis i < n) ⊎ (t.basis i ≡ n + i) → t.basis i < n + m
      by_cases (inl q) = omega arith
      by_cases (inr q) = omega arith

  -- some table within most_steps steps has no column to enter
  pub not_always : (p : FeasibilityProblem A) (t : SimplexTable A) → HasInvariants (operations_of F) m n p t
      → ((k : ℕ) → k ≤ most_steps → ¬ (IsStuck (operations_of F) m n (table_after (operations_of F) m n t k))) → ⊥
  not_always p t h s =
      let q = pigeonhole most_steps (λ k. digits (n + m) m (table_after (operations_of F) m n t k).basis)
      (λ k l. digits_below (n + m) m (table_after (operations_of F) m n t k).basis
      (basis_below p (table_after (operations_of F) m n t k) (invariants_after k l))) in
      never_again F m n p t h most_steps (λ k l. s k (omega arith)) q.0 q.1 q.2 q.3
      (digits_tell (n + m) m (table_after (operations_of F) m n t q.0).basis (table_after (operations_of F) m n t q.1).basis
      (basis_below p (table_after (operations_of F) m n t q.0) (invariants_after q.0 (omega (arith, q.2, q.3))))
      (basis_below p (table_after (operations_of F) m n t q.1) (invariants_after q.1 q.3)) q.4)
    where
      invariants_after : (k : ℕ) → k ≤ most_steps → HasInvariants (operations_of F) m n p (table_after (operations_of F) m n t k)
      invariants_after zero l = h
      invariants_after (suc k) l = next_holds F m n p (table_after (operations_of F) m n t k) (invariants_after k (omega arith)) (s k (omega arith))

  -- the number of steps that are left to a table with no column to enter
  abbrev pub is_moving : SimplexTable A → Bool
  is_moving t = ltb (entering_column (operations_of F) m n t) n

  -- the number of steps to the first table with no column to enter
  abbrev pub steps_left : SimplexTable A → ℕ
  steps_left t = first_false (λ k. is_moving (table_after (operations_of F) m n t k)) 0 (suc most_steps)

  after_next : (t : SimplexTable A) (k : ℕ) → table_after (operations_of F) m n (next (operations_of F) m n t) k ≡ table_after (operations_of F) m n t (suc k)
  after_next t zero = refl
  after_next t (suc k) = ap (next (operations_of F) m n) (after_next t k)

  pub stuck_if : (t : SimplexTable A) → is_moving t ≡ false → IsStuck (operations_of F) m n t
  stuck_if t e j l = first_before (λ j. F.order.is_least (t.entry m j)) 0 n j (omega arith)
      (let q : n ≤ entering_column (operations_of F) m n t = ltb-false (entering_column (operations_of F) m n t) n e in omega arith)

  pub moving_if : (t : SimplexTable A) → ¬ (IsStuck (operations_of F) m n t) → is_moving t ≡ true
  moving_if t s = by_cases (cases_Bool (is_moving t))
    where
      by_cases : (is_moving t ≡ true) ⊎ (is_moving t ≡ false) → is_moving t ≡ true
      by_cases (inl e) = e
      by_cases (inr e) = absurd (s (stuck_if t e))

  pub not_stuck_if : (t : SimplexTable A) → is_moving t ≡ true → ¬ (IsStuck (operations_of F) m n t)
  not_stuck_if t e s = by_cases (entering_is F m n t (ltb-true (entering_column (operations_of F) m n t) n e))
    where
      by_cases : Enters F m n t (entering_column (operations_of F) m n t) → ⊥
      by_cases x = not_both F (t.entry m (entering_column (operations_of F) m n t)) x.below (s (entering_column (operations_of F) m n t) x.column)

  -- a bound on the first false
  pub first_at_most : (f : ℕ → Bool) (k left j : ℕ) → k ≤ j → f j ≡ false → first_false f k left ≤ j
  first_at_most f k zero j h e = h
  first_at_most f k (suc left) j h e = by_cases (f k) refl (cases_eq k j) (λ a. first_at_most f (suc k) left j a e)
    where
      by_cases : (b : Bool) → f k ≡ b → (k ≡ j) ⊎ (k ≡ j → ⊥) → (suc k ≤ j → first_false f (suc k) left ≤ j) → cond b (first_false f (suc k) left) k ≤ j
      by_cases false q c ih = h
      by_cases true q (inl c) ih = absurd (true≢false (sym q ∙ ap f c ∙ e))
      by_cases true q (inr c) ih = ih (omega arith)

  -- each step lowers it
  pub steps_fall : (p : FeasibilityProblem A) (t : SimplexTable A) → HasInvariants (operations_of F) m n p t
      → ¬ (IsStuck (operations_of F) m n t) → steps_left (next (operations_of F) m n t) < steps_left t
  steps_fall p t h s = by_cases (cases_lt (steps_left t) (suc most_steps))
    where
      by_cases : (steps_left t < suc most_steps) ⊎ (suc most_steps ≤ steps_left t) → steps_left (next (operations_of F) m n t) < steps_left t
      by_cases (inr l) = absurd (not_always p t h (λ k q. not_stuck_if (table_after (operations_of F) m n t k)
          (first_before (λ k. is_moving (table_after (operations_of F) m n t k)) 0 (suc most_steps) k (omega arith) (omega arith))))
      by_cases (inl l) = steps_fall_from (steps_left t) refl
        where
          last_is_stuck : is_moving (table_after (operations_of F) m n t (steps_left t)) ≡ false
          last_is_stuck = first_at (λ k. is_moving (table_after (operations_of F) m n t k)) 0 (suc most_steps) (omega arith)

          steps_fall_from : (x : ℕ) → steps_left t ≡ x → steps_left (next (operations_of F) m n t) < x
          steps_fall_from zero e = absurd (true≢false (sym (moving_if t s) ∙ ap (λ k. is_moving (table_after (operations_of F) m n t k))
              (sym e) ∙ last_is_stuck))
          steps_fall_from (suc x) e =
              let b : steps_left (next (operations_of F) m n t)
              ≤ x = first_at_most (λ k. is_moving (table_after (operations_of F) m n (next (operations_of F) m n t) k)) 0
              (suc most_steps) x (omega arith)
              (ap is_moving (after_next t x) ∙ ap (λ k. is_moving (table_after (operations_of F) m n t k)) (sym e) ∙ last_is_stuck) in omega arith
