-- Bland's rule meets no set of basic columns twice.
use Rattle.std.proofs.Common.{◌≡◌, ℕ, zero, suc, ◌+◌, ◌-◌, ◌<◌, ◌≤◌, Bool, true, false, cond, eqb, ltb, refl, sym, ap, ap₂, subst, ◌∙◌, ◌⊎◌, inl, inr, arith}
use Rattle.std.proofs.lemmas.Bool.{eq-eqb, ne_eqb, cases_eq, cases_lt}
use Rattle.it_rational.specs.OrderedFields.{OrderedField, IsAtLeastZero, IsAboveZero}
use Rattle.it_tableau.specs.FieldOperations.{operations_of, difference}
use Rattle.it_tableau.specs.SimplexTables.{SimplexTable, FeasibilityProblem, ratio}
use Rattle.it_tableau.specs.Invariants.{cost_of, HasInvariants}
use Rattle.it_run.specs.Choice.{first_false, entering_column, leaving_row, next, IsStuck}
use Rattle.it_run.specs.Meetings.{table_after, IsBasisWithin}
use Rattle.it_tableau.proofs.Sums.{sum_same, sum_unit}
use Rattle.it_tableau.proofs.BasicColumns.{basic_columns_differ}
use Rattle.it_tableau.proofs.ViewLemmas.{same_functions}
use Rattle.it_tableau.proofs.Kept.{new_basis, old_basis}
use Rattle.it_run.proofs.BlandRule.{Leaves, entering_is, some_column, leaving_is, first_before, first_at, equal_by_order}
use Rattle.it_run.proofs.RunLemmas.{next_holds}
use Rattle.it_run.proofs.RowsByBasis.{basic_cost, row_by_basis}
use Rattle.it_run.proofs.StepsLeft.{is_moving, steps_left, steps_fall, most_steps, first_at_most, not_stuck_if, not_always, stuck_if}

module _ {A : Type 0} (F : OrderedField A) (m n : ℕ) where
  -- rows of one basic column are equal
  same_row : (p : FeasibilityProblem A) (t s : SimplexTable A) → HasInvariants (operations_of F) m n p t
      → HasInvariants (operations_of F) m n p s → IsBasisWithin m s t → (i k j : ℕ) → i < m → k < m → t.basis i ≡ s.basis k
      → t.entry i j ≡ s.entry k j
  same_row p t s h g w i k j hi hk e =
      row_by_basis F m n p s t g h i j (omega arith)
      ∙ sum_same F.ring m (λ l. F.ring.mul (t.entry i (s.basis l)) (s.entry l j)) (λ l. F.ring.mul (s.entry l j) (cond (eqb l k) F.ring.unit F.ring.null))
      (λ l q. ap (λ x. F.ring.mul x (s.entry l j)) (by_cases l q (w l q) (cases_eq l k))
      ∙ F.ring.mul_comm (cond (eqb l k) F.ring.unit F.ring.null) (s.entry l j))
      ∙ sum_unit F.ring m (λ l. s.entry l j) k hk
    where
      by_cases : (l : ℕ) → l < m → (x : ℕ) × (x < m) × (s.basis l ≡ t.basis x) → (l ≡ k) ⊎ (l ≡ k → ⊥)
          → t.entry i (s.basis l) ≡ cond (eqb l k) F.ring.unit F.ring.null
      by_cases l q x (inl d) = ap (t.entry i) (ap s.basis d ∙ sym e) ∙ h.units i i hi hi
          ∙ ap (λ b. cond b F.ring.unit F.ring.null) (eq-eqb i i refl ∙ sym (eq-eqb l k d))
      by_cases l q x (inr d) = ap (t.entry i) x.2 ∙ h.units i x.0 hi x.1
          ∙ ap (λ b. cond b F.ring.unit F.ring.null) (ne_eqb i x.0 (λ y. d
          (basic_columns_differ F m n p s g l k q hk (x.2 ∙ ap t.basis (sym y) ∙ e))) ∙ sym (ne_eqb l k d))

  same_cost_row : (p : FeasibilityProblem A) (t s : SimplexTable A) → HasInvariants (operations_of F) m n p t
      → HasInvariants (operations_of F) m n p s → IsBasisWithin m s t → (j : ℕ) → t.entry m j ≡ s.entry m j
  same_cost_row p t s h g w j =
      row_by_basis F m n p s t g h m j (omega arith)
      ∙ sum_same F.ring m (λ l. F.ring.mul (t.entry m (s.basis l)) (s.entry l j))
      (λ l. F.ring.mul (cost_of (operations_of F) m n (s.basis l)) (s.entry l j))
      (λ l q. ap (λ x. F.ring.mul x (s.entry l j)) (by_cases l (w l q)))
      ∙ sym (g.costs j)
    where
      by_cases : (l : ℕ) → (x : ℕ) × (x < m) × (s.basis l ≡ t.basis x) → t.entry m (s.basis l) ≡ cost_of (operations_of F) m n (s.basis l)
      by_cases l x = ap (t.entry m) x.2 ∙ basic_cost F m n p t h x.0 x.1 ∙ ap (cost_of (operations_of F) m n) (sym x.2)

  same_entering : (p : FeasibilityProblem A) (t s : SimplexTable A) → HasInvariants (operations_of F) m n p t
      → HasInvariants (operations_of F) m n p s → IsBasisWithin m s t → entering_column (operations_of F) m n t
      ≡ entering_column (operations_of F) m n s
  same_entering p t s h g w = ap (λ (f : ℕ → Bool). first_false f 0 n) (same_functions (λ j. ap F.order.is_least (same_cost_row p t s h g w j)))

  -- the same column leaves
  same_leaving : (p : FeasibilityProblem A) (t s : SimplexTable A) (c r x : ℕ) → HasInvariants (operations_of F) m n p t
      → HasInvariants (operations_of F) m n p s → IsBasisWithin m t s → IsBasisWithin m s t → Leaves F m n t c r → Leaves F m n s c x
      → t.basis r ≡ s.basis x
  same_leaving p t s c r x h g w v l q =
      let k = w r l.row in let i = v x q.row in
      let row : (j : ℕ) → t.entry r j ≡ s.entry k.0 j = λ j. same_row p t s h g v r k.0 j l.row k.1 k.2 in
      let other : (j : ℕ) → t.entry i.0 j ≡ s.entry x j = λ j. same_row p t s h g v i.0 x j i.1 q.row (sym i.2) in
      let rk : ratio (operations_of F) m n t c r ≡ ratio (operations_of F) m n s c k.0 = ap₂ (λ a b. F.ring.mul a (F.order.inv b)) (row (n + m)) (row c) in
      let ri : ratio (operations_of F) m n t c i.0 ≡ ratio (operations_of F) m n s c x = ap₂ (λ a b. F.ring.mul a (F.order.inv b)) (other (n + m)) (other c) in
      let open_k : IsAboveZero F (s.entry k.0 c) = subst (IsAboveZero F) (row c) l.above in
      let open_i : IsAboveZero F (t.entry i.0 c) = subst (IsAboveZero F) (sym (other c)) q.above in
      let up : IsAtLeastZero F (difference F.ring (ratio (operations_of F) m n s c k.0) (ratio (operations_of F) m n s c x)) = q.least k.0 k.1 open_k in
      let down : IsAtLeastZero F (difference F.ring (ratio (operations_of F) m n s c x) (ratio (operations_of F) m n s c k.0)) = subst
      (λ (y : A). IsAtLeastZero F (difference F.ring y (ratio (operations_of F) m n s c k.0))) ri
      (subst (λ (y : A). IsAtLeastZero F (difference F.ring (ratio (operations_of F) m n t c i.0) y)) rk (l.least i.0 i.1 open_i)) in
      let even : ratio (operations_of F) m n s c k.0 ≡ ratio (operations_of F) m n s c x = equal_by_order F m n
      (ratio (operations_of F) m n s c k.0) (ratio (operations_of F) m n s c x) up down in
      equal_by_bounds (t.basis r) (s.basis x) (subst (λ (y : ℕ). s.basis x ≤ y) (sym k.2) (q.first k.0 k.1 open_k even))
      (subst (λ (y : ℕ). t.basis r ≤ y) (sym i.2) (l.first i.0 i.1 open_i (ri ∙ sym even ∙ sym rk)))
    where
      equal_by_bounds : (a b : ℕ) → b ≤ a → a ≤ b → a ≡ b
      equal_by_bounds a b h k = omega arith

  -- and the tables after the step have the same basic columns
  next_within : (p : FeasibilityProblem A) (t s : SimplexTable A) → HasInvariants (operations_of F) m n p t
      → HasInvariants (operations_of F) m n p s → ¬ (IsStuck (operations_of F) m n t) → ¬ (IsStuck (operations_of F) m n s)
      → IsBasisWithin m t s → IsBasisWithin m s t → IsBasisWithin m (next (operations_of F) m n t) (next (operations_of F) m n s)
  next_within p t s h g u z w v i hi = by_cases (cases_eq i first_row)
    where
      first_row : ℕ
      first_row = leaving_row (operations_of F) m n t (entering_column (operations_of F) m n t)

      first_leaves : Leaves F m n t (entering_column (operations_of F) m n t) (leaving_row (operations_of F) m n t (entering_column (operations_of F) m n t))
      first_leaves = leaving_is F m n p t (entering_column (operations_of F) m n t) h (entering_is F m n t (some_column F m n t u)).below

      second_leaves : Leaves F m n s (entering_column (operations_of F) m n s) (leaving_row (operations_of F) m n s (entering_column (operations_of F) m n s))
      second_leaves = leaving_is F m n p s (entering_column (operations_of F) m n s) g (entering_is F m n s (some_column F m n s z)).below

      entering_agree : entering_column (operations_of F) m n t ≡ entering_column (operations_of F) m n s
      entering_agree = same_entering p t s h g v

      leaving_agree : t.basis (leaving_row (operations_of F) m n t (entering_column (operations_of F) m n t))
          ≡ s.basis (leaving_row (operations_of F) m n s (entering_column (operations_of F) m n s))
      leaving_agree = same_leaving p t s (entering_column (operations_of F) m n s)
          (leaving_row (operations_of F) m n t (entering_column (operations_of F) m n t))
          (leaving_row (operations_of F) m n s (entering_column (operations_of F) m n s)) h g w v
          (subst (λ (y : ℕ). Leaves F m n t y (leaving_row (operations_of F) m n t (entering_column (operations_of F) m n t)))
          entering_agree first_leaves) second_leaves

      by_cases : (i ≡ leaving_row (operations_of F) m n t (entering_column (operations_of F) m n t))
          ⊎ (i ≡ leaving_row (operations_of F) m n t (entering_column (operations_of F) m n t) → ⊥)
          → (k : ℕ) × (k < m) × ((next (operations_of F) m n t).basis i ≡ (next (operations_of F) m n s).basis k)
      by_cases (inl e) = (
        leaving_row (operations_of F) m n s (entering_column (operations_of F) m n s),
        second_leaves.row,
        ap (next (operations_of F) m n t).basis e ∙ new_basis F m n t (leaving_row (operations_of F) m n t
            (entering_column (operations_of F) m n t)) (entering_column (operations_of F) m n t) ∙ entering_agree
            ∙ sym (new_basis F m n s (leaving_row (operations_of F) m n s (entering_column (operations_of F) m n s))
            (entering_column (operations_of F) m n s)),
      )
      by_cases (inr e) = let k = w i hi in (
        k.0,
        k.1,
        old_basis F m n t (leaving_row (operations_of F) m n t (entering_column (operations_of F) m n t)) (entering_column (operations_of F) m n t) i e ∙ k.2
            ∙ sym (old_basis F m n s (leaving_row (operations_of F) m n s (entering_column (operations_of F) m n s))
            (entering_column (operations_of F) m n s) k.0
            (λ y. e (basic_columns_differ F m n p t h i (leaving_row (operations_of F) m n t (entering_column (operations_of F) m n t)) hi
            first_leaves.row (k.2 ∙ ap s.basis y ∙ sym leaving_agree)))),
      )

  -- two tables of the problem with the same set of basic columns
  pub record HaveSameBasis (p : FeasibilityProblem A) (t s : SimplexTable A) : Type 0 where
    pub one : HasInvariants (operations_of F) m n p t
    pub two : HasInvariants (operations_of F) m n p s
    pub there : IsBasisWithin m t s
    pub back : IsBasisWithin m s t

  same_moving : (p : FeasibilityProblem A) (t s : SimplexTable A) → HaveSameBasis p t s → is_moving F m n t ≡ is_moving F m n s
  same_moving p t s a = ap (λ c. ltb c n) (same_entering p t s a.one a.two a.back)

  same_basis_next : (p : FeasibilityProblem A) (t s : SimplexTable A) → HaveSameBasis p t s → is_moving F m n s ≡ true
      → HaveSameBasis p (next (operations_of F) m n t) (next (operations_of F) m n s)
  same_basis_next p t s a e =
      let z = not_stuck_if F m n s e in let u = not_stuck_if F m n t (same_moving p t s a ∙ e) in record {
        one = next_holds F m n p t a.one u;
        two = next_holds F m n p s a.two z;
        there = next_within p t s a.one a.two u z a.there a.back;
        back = next_within p s t a.two a.one z u a.back a.there;
      }

  same_basis_after : (p : FeasibilityProblem A) (t s : SimplexTable A) → HaveSameBasis p t s → (k : ℕ)
      → ((j : ℕ) → j < k → is_moving F m n (table_after (operations_of F) m n s j) ≡ true)
      → HaveSameBasis p (table_after (operations_of F) m n t k) (table_after (operations_of F) m n s k)
  same_basis_after p t s a zero h = a
  same_basis_after p t s a (suc k) h = same_basis_next p (table_after (operations_of F) m n t k) (table_after (operations_of F) m n s k)
      (same_basis_after p t s a k (λ j l. h j (omega arith))) (h k (omega arith))

  -- so as many steps are left
  steps_left_with_same_basis : (p : FeasibilityProblem A) (t s : SimplexTable A) → HaveSameBasis p t s
      → is_moving F m n (table_after (operations_of F) m n s (steps_left F m n s)) ≡ false → steps_left F m n t ≤ steps_left F m n s
  steps_left_with_same_basis p t s a e = first_at_most F m n (λ k. is_moving F m n (table_after (operations_of F) m n t k)) 0
      (suc (most_steps F m n)) (steps_left F m n s) (omega arith)
      (same_moving p (table_after (operations_of F) m n t (steps_left F m n s)) (table_after (operations_of F) m n s (steps_left F m n s))
      (same_basis_after p t s a (steps_left F m n s) (λ j l. first_before (λ k. is_moving F m n (table_after (operations_of F) m n s k)) 0
      (suc (most_steps F m n)) j (omega arith) l)) ∙ e)

  steps_left_at_most : (p : FeasibilityProblem A) (t : SimplexTable A) → HasInvariants (operations_of F) m n p t → steps_left F m n t ≤ most_steps F m n
  steps_left_at_most p t h = by_cases (cases_lt (steps_left F m n t) (suc (most_steps F m n)))
    where
      by_cases : (steps_left F m n t < suc (most_steps F m n)) ⊎ (suc (most_steps F m n) ≤ steps_left F m n t) → steps_left F m n t ≤ most_steps F m n
      by_cases (inl l) = omega arith
      by_cases (inr l) = absurd (not_always F m n p t h (λ k q. not_stuck_if F m n (table_after (operations_of F) m n t k)
          (first_before (λ k. is_moving F m n (table_after (operations_of F) m n t k)) 0 (suc (most_steps F m n)) k (omega arith)
          (omega arith))))

  -- a run comes to a table with no column to enter
  pub is_stuck_after_steps_left : (p : FeasibilityProblem A) (t : SimplexTable A) → HasInvariants (operations_of F) m n p t
      → is_moving F m n (table_after (operations_of F) m n t (steps_left F m n t)) ≡ false
  is_stuck_after_steps_left p t h = first_at (λ k. is_moving F m n (table_after (operations_of F) m n t k)) 0 (suc (most_steps F m n))
      (let l = steps_left_at_most p t h in omega (arith, l))

  pub runs_end : (p : FeasibilityProblem A) (t : SimplexTable A) → HasInvariants (operations_of F) m n p t
      → (k : ℕ) × (k ≤ most_steps F m n) × IsStuck (operations_of F) m n (table_after (operations_of F) m n t k)
  runs_end p t h = (
    steps_left F m n t,
    steps_left_at_most p t h,
    stuck_if F m n (table_after (operations_of F) m n t (steps_left F m n t))
        (is_stuck_after_steps_left p t h),
  )

  module _ (p : FeasibilityProblem A) (t : SimplexTable A) (h : HasInvariants (operations_of F) m n p t) (N : ℕ)
      (go : (k : ℕ) → k < N → ¬ (IsStuck (operations_of F) m n (table_after (operations_of F) m n t k))) where
    invariants_after : (k : ℕ) → k ≤ N → HasInvariants (operations_of F) m n p (table_after (operations_of F) m n t k)
    invariants_after zero l = h
    invariants_after (suc k) l = next_holds F m n p (table_after (operations_of F) m n t k) (invariants_after k (omega arith)) (go k (omega arith))

    steps_left_fall : (a d : ℕ) → a + suc d ≤ N → steps_left F m n (table_after (operations_of F) m n t (a + suc d))
        < steps_left F m n (table_after (operations_of F) m n t a)
    steps_left_fall a zero l = subst (λ (x : ℕ). steps_left F m n (table_after (operations_of F) m n t x)
        < steps_left F m n (table_after (operations_of F) m n t a)) next_step
        (steps_fall F m n p (table_after (operations_of F) m n t a) (invariants_after a (omega arith)) (go a (omega arith)))
      where
        next_step : suc a ≡ a + suc zero
        next_step = omega arith
    steps_left_fall a (suc d) l = subst (λ (x : ℕ). steps_left F m n (table_after (operations_of F) m n t x)
        < steps_left F m n (table_after (operations_of F) m n t a)) later_step
        (chain (steps_left F m n (table_after (operations_of F) m n t (suc (a + suc d))))
        (steps_left F m n (table_after (operations_of F) m n t (a + suc d))) (steps_left F m n (table_after (operations_of F) m n t a))
        (steps_fall F m n p (table_after (operations_of F) m n t (a + suc d)) (invariants_after (a + suc d) (omega arith))
        (go (a + suc d) (omega arith))) (steps_left_fall a d (omega arith)))
      where
        later_step : suc (a + suc d) ≡ a + suc (suc d)
        later_step = omega arith

        chain : (x y z : ℕ) → x < y → y < z → x < z
        chain x y z f g = omega arith

    -- no two tables of the run have the same set of basic columns
    pub never_set_again : (a b : ℕ) → a < b → b ≤ N
        → IsBasisWithin m (table_after (operations_of F) m n t a) (table_after (operations_of F) m n t b)
        → IsBasisWithin m (table_after (operations_of F) m n t b) (table_after (operations_of F) m n t a) → ⊥
    never_set_again a b l q w v = bounds_clash (steps_left F m n (table_after (operations_of F) m n t a))
        (steps_left F m n (table_after (operations_of F) m n t b))
        (steps_left_with_same_basis p (table_after (operations_of F) m n t a) (table_after (operations_of F) m n t b)
        (record { one = invariants_after a (omega arith); two = invariants_after b q; there = w; back = v })
        (is_stuck_after_steps_left p (table_after (operations_of F) m n t b) (invariants_after b q)))
        (subst (λ (x : ℕ). steps_left F m n (table_after (operations_of F) m n t x)
        < steps_left F m n (table_after (operations_of F) m n t a)) steps_reach (steps_left_fall a (b - a - 1) (omega arith)))
      where
        steps_reach : a + suc (b - a - 1) ≡ b
        steps_reach = omega arith

        bounds_clash : (x y : ℕ) → x ≤ y → y < x → ⊥
        bounds_clash x y f g = omega arith
