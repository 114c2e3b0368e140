-- Bland's rule meets no list of basic columns twice.
use Rattle.std.proofs.Common.{◌≡◌, ◌≢◌, ℕ, zero, suc, ◌+◌, ◌-◌, ◌<◌, ◌≤◌, cond, [], ◌∷◌, refl, sym, ap, ap₂, subst, ◌∙◌, ◌⊎◌, inl, inr, arith}
use Rattle.std.proofs.lemmas.Bool.{cases_eq, cases_lt, lt-ltb, cases_Bool}
use Rattle.it_number.proofs.Ring.{ring, mul-null, v, plus, times, minus, nil, one}
use Rattle.it_rational.proofs.Ordered.{null-least, not_both, below-neg, neg-above, above-least, above-apart, below-apart, add-above, mul-above, inv-above, inv-least, above-from}
use Rattle.it_rational.specs.OrderedFields.{OrderedField, IsAtLeastZero, IsBelowZero, IsAboveZero}
use Rattle.it_tableau.specs.FieldOperations.{operations_of, sum_to, difference}
use Rattle.it_tableau.specs.SimplexTables.{SimplexTable, FeasibilityProblem, ratio}
use Rattle.it_tableau.specs.Invariants.{cost_of, HasInvariants}
use Rattle.it_run.specs.Choice.{entering_column, leaving_row, IsStuck}
use Rattle.it_run.specs.Meetings.{table_after}
use Rattle.it_tableau.proofs.Sums.{sum_same, sum_add, sum_times_left, some_below}
use Rattle.it_tableau.proofs.BasicColumns.{basic_columns_differ}
use Rattle.it_tableau.proofs.Kept.{pivot_row, other_row, new_basis, old_basis}
use Rattle.it_run.proofs.BlandRule.{Enters, Leaves, entering_is, some_column, leaving_is, equal_by_order}
use Rattle.it_run.proofs.RunLemmas.{next_holds}
use Rattle.it_run.proofs.RowsByBasis.{basic_cost, row_by_basis, same_right}

module _ {A : Type 0} (F : OrderedField A) (m n : ℕ) where
  module _ (p : FeasibilityProblem A) (t : SimplexTable A) (h : HasInvariants (operations_of F) m n p t) (N : ℕ)
      (moving : (k : ℕ) → k < N → ¬ (IsStuck (operations_of F) m n (table_after (operations_of F) m n t k))) where
    -- the entering column, the leaving row, the basic columns and the right sides of the table after k steps
    abbrev col : ℕ → ℕ
    col k = entering_column (operations_of F) m n (table_after (operations_of F) m n t k)

    abbrev row : ℕ → ℕ
    row k = leaving_row (operations_of F) m n (table_after (operations_of F) m n t k) (col k)

    abbrev base : ℕ → ℕ → ℕ
    base k i = (table_after (operations_of F) m n t k).basis i

    abbrev right : ℕ → ℕ → A
    right k i = (table_after (operations_of F) m n t k).entry i (n + m)

    invariants_after : (k : ℕ) → k ≤ N → HasInvariants (operations_of F) m n p (table_after (operations_of F) m n t k)
    invariants_after zero l = h
    invariants_after (suc k) l = next_holds F m n p (table_after (operations_of F) m n t k) (invariants_after k (omega arith)) (moving k (omega arith))

    column_enters : (k : ℕ) → k < N → Enters F m n (table_after (operations_of F) m n t k) (col k)
    column_enters k l = entering_is F m n (table_after (operations_of F) m n t k) (some_column F m n (table_after (operations_of F) m n t k) (moving k l))

    row_leaves : (k : ℕ) → k < N → Leaves F m n (table_after (operations_of F) m n t k) (col k) (row k)
    row_leaves k l = leaving_is F m n p (table_after (operations_of F) m n t k) (col k) (invariants_after k (omega arith)) (column_enters k l).below

    entering_becomes_basic : (k : ℕ) → base (suc k) (row k) ≡ col k
    entering_becomes_basic k = new_basis F m n (table_after (operations_of F) m n t k) (row k) (col k)

    other_rows_keep_basis : (k i : ℕ) → i ≢ row k → base (suc k) i ≡ base k i
    other_rows_keep_basis k i d = old_basis F m n (table_after (operations_of F) m n t k) (row k) (col k) i d

    -- the entering column isn't basic
    entering_is_not_basic : (k i : ℕ) → k < N → i < m → base k i ≢ col k
    entering_is_not_basic k i l hi e = by_cases (invariants_after k (omega arith)).own (cases_lt (base k i) n)
      where
        by_cases : ((i : ℕ) → i < m → (base k i < n) ⊎ (base k i ≡ n + i)) → (base k i < n) ⊎ (n ≤ base k i) → ⊥
        by_cases _ (inl q) = below-apart F ((table_after (operations_of F) m n t k).entry m (col k)) (column_enters k l).below
            (ap ((table_after (operations_of F) m n t k).entry m) (sym e) ∙ basic_cost F m n p (table_after (operations_of F) m n t k)
            (invariants_after k (omega arith)) i hi ∙ ap (λ b. cond b F.ring.null (F.ring.neg F.ring.unit)) (lt-ltb (base k i) n q))
        by_cases _ (inr q) = let c : col k < n = (column_enters k l).column in absurd (omega arith)

    -- ---- the right sides
    gain : ℕ → A
    gain k = F.ring.mul (F.ring.neg ((table_after (operations_of F) m n t k).entry m (col k)))
        (F.order.inv ((table_after (operations_of F) m n t k).entry (row k) (col k)))

    right_side_gains : (k : ℕ) → k < N → right (suc k) m ≡ F.ring.add (right k m) (F.ring.mul (right k (row k)) (gain k))
    unfolding gain
    right_side_gains k l = other_row F m n (table_after (operations_of F) m n t k) (row k) (col k) m (n + m)
        (λ e. let r : row k < m = (row_leaves k l).row in omega arith)
        ∙ ring F.ring (right k m ∷ right k (row k) ∷ (table_after (operations_of F) m n t k).entry m (col k)
        ∷ F.order.inv ((table_after (operations_of F) m n t k).entry (row k) (col k)) ∷ [])
        (plus (v 0) (minus (times (v 1) (times (v 2) (v 3))))) (plus (v 0) (times (v 1) (times (minus (v 2)) (v 3)))) refl

    inv-positive : (a : A) → IsAboveZero F a → IsAboveZero F (F.order.inv a)
    inv-positive a k = above-from F (F.order.inv a) (inv-least F a k)
        (λ e. F.order.apart (sym (inv-above F a k) ∙ ap (F.ring.mul a) e ∙ mul-null F.ring a))

    gain-above : (k : ℕ) → k < N → IsAboveZero F (gain k)
    unfolding gain
    gain-above k l = mul-above F (F.ring.neg ((table_after (operations_of F) m n t k).entry m (col k)))
        (F.order.inv ((table_after (operations_of F) m n t k).entry (row k) (col k)))
        (neg-above F ((table_after (operations_of F) m n t k).entry m (col k)) (column_enters k l).below)
        (inv-positive ((table_after (operations_of F) m n t k).entry (row k) (col k)) (row_leaves k l).above)

    gain-least : (k : ℕ) → k < N → IsAtLeastZero F (F.ring.mul (right k (row k)) (gain k))
    gain-least k l = F.order.mul-least (right k (row k)) (gain k) ((invariants_after k (omega arith)).rights (row k) (row_leaves k l).row)
        (above-least F (gain k) (gain-above k l))

    -- the cost row's right side never falls
    right_side_rises : (k d : ℕ) → k + d ≤ N → IsAtLeastZero F (difference F.ring (right (k + d) m) (right k m))
    right_side_rises k zero l = subst (λ (x : ℕ). IsAtLeastZero F (difference F.ring (right x m) (right k m))) no_steps
        (subst (IsAtLeastZero F) (sym (F.ring.add-neg (right k m))) (null-least F))
      where
        no_steps : k ≡ k + zero
        no_steps = omega arith
    right_side_rises k (suc d) l = subst (λ (x : ℕ). IsAtLeastZero F (difference F.ring (right x m) (right k m))) later_step
        (subst (IsAtLeastZero F) (ring F.ring (right (k + d) m ∷ right k m ∷ F.ring.mul (right (k + d) (row (k + d))) (gain (k + d)) ∷ [])
        (plus (plus (v 0) (minus (v 1))) (v 2)) (plus (plus (v 0) (v 2)) (minus (v 1))) refl
        ∙ ap (λ x. difference F.ring x (right k m)) (sym (right_side_gains (k + d) (omega arith))))
        (F.order.add-least (difference F.ring (right (k + d) m) (right k m)) (F.ring.mul (right (k + d) (row (k + d))) (gain (k + d)))
        (right_side_rises k d (omega arith)) (gain-least (k + d) (omega arith))))
      where
        later_step : suc (k + d) ≡ k + suc d
        later_step = omega arith

    right_side_rises_to : (j k : ℕ) → j ≤ k → k ≤ N → IsAtLeastZero F (difference F.ring (right k m) (right j m))
    right_side_rises_to j k q l = subst (λ (x : ℕ). IsAtLeastZero F (difference F.ring (right x m) (right j m))) steps_reach
        (right_side_rises j (k - j) (omega arith))
      where
        steps_reach : j + (k - j) ≡ k
        steps_reach = omega arith

    module _ (a b : ℕ) (first : a < b) (last : b ≤ N) (again : (i : ℕ) → i < m → base a i ≡ base b i) where
      same_cost : (k : ℕ) → a ≤ k → k ≤ b → right k m ≡ right a m
      same_cost k f g = equal_by_order F m n (right k m) (right a m) (right_side_rises_to a k f (omega arith))
          (subst (λ (x : A). IsAtLeastZero F (difference F.ring x (right k m)))
          (sym (same_right F m n p (table_after (operations_of F) m n t a) (table_after (operations_of F) m n t b)
          (invariants_after a (omega arith)) (invariants_after b last) again)) (right_side_rises_to k b g last))

      -- the leaving row's right side is 0
      right_null : (k : ℕ) → a ≤ k → k < b → right k (row k) ≡ F.ring.null
      right_null k f g = by_cases (cases_Bool (F.order.is_least (F.ring.neg (right k (row k)))))
        where
          no_gain : F.ring.mul (right k (row k)) (gain k) ≡ F.ring.null
          no_gain = ring F.ring (right k m ∷ F.ring.mul (right k (row k)) (gain k) ∷ []) (v 1) (plus (plus (v 0) (v 1)) (minus (v 0))) refl
              ∙ ap (λ x. F.ring.add x (F.ring.neg (right k m))) (sym (right_side_gains k (omega arith))
              ∙ same_cost (suc k) (omega arith) (omega arith) ∙ sym (same_cost k f (omega arith)))
              ∙ F.ring.add-neg (right k m)

          by_cases : (IsAtLeastZero F (F.ring.neg (right k (row k)))) ⊎ (IsAboveZero F (right k (row k))) → right k (row k) ≡ F.ring.null
          by_cases (inl q) = F.order.strict (right k (row k)) ((invariants_after k (omega arith)).rights (row k) (row_leaves k (omega arith)).row) q
          by_cases (inr q) = absurd (above-apart F (F.ring.mul (right k (row k)) (gain k))
              (mul-above F (right k (row k)) (gain k) q (gain-above k (omega arith))) no_gain)

      -- no right side changes
      right_step : (k i : ℕ) → a ≤ k → k < b → right (suc k) i ≡ right k i
      right_step k i f g = by_cases (cases_eq i (row k))
        where
          by_cases : (i ≡ row k) ⊎ (i ≡ row k → ⊥) → right (suc k) i ≡ right k i
          by_cases (inl e) = subst (λ (x : ℕ). right (suc k) x ≡ right k x) (sym e)
              (pivot_row F m n (table_after (operations_of F) m n t k) (row k) (col k) (n + m)
              ∙ ap (λ x. F.ring.mul x (F.order.inv ((table_after (operations_of F) m n t k).entry (row k) (col k)))) (right_null k f g)
              ∙ F.ring.mul_comm F.ring.null (F.order.inv ((table_after (operations_of F) m n t k).entry (row k) (col k)))
              ∙ mul-null F.ring (F.order.inv ((table_after (operations_of F) m n t k).entry (row k) (col k))) ∙ sym (right_null k f g))
          by_cases (inr d) = other_row F m n (table_after (operations_of F) m n t k) (row k) (col k) i (n + m) d
              ∙ ap (λ x. difference F.ring (right k i) (F.ring.mul x (F.ring.mul ((table_after (operations_of F) m n t k).entry i (col k))
              (F.order.inv ((table_after (operations_of F) m n t k).entry (row k) (col k)))))) (right_null k f g)
              ∙ ring F.ring (right k i ∷ F.ring.mul ((table_after (operations_of F) m n t k).entry i (col k))
              (F.order.inv ((table_after (operations_of F) m n t k).entry (row k) (col k))) ∷ []) (plus (v 0) (minus (times nil (v 1))))
              (v 0) refl

      right_same : (d i : ℕ) → a + d ≤ b → right (a + d) i ≡ right a i
      right_same zero i l = ap (λ x. right x i) no_steps
        where
          no_steps : a + zero ≡ a
          no_steps = omega arith
      right_same (suc d) i l = ap (λ x. right x i) later_step ∙ right_step (a + d) i (omega arith) (omega arith) ∙ right_same d i (omega arith)
        where
          later_step : a + suc d ≡ suc (a + d)
          later_step = omega arith

      right_at : (j k i : ℕ) → a ≤ j → j ≤ b → a ≤ k → k ≤ b → right j i ≡ right k i
      right_at j k i f g x y = ap (λ z. right z i) (sym steps_reach) ∙ right_same (j - a) i (omega arith)
          ∙ sym (right_same (k - a) i (omega arith)) ∙ ap (λ z. right z i) sum_is_second
        where
          steps_reach : a + (j - a) ≡ j
          steps_reach = omega arith

          sum_is_second : a + (k - a) ≡ k
          sum_is_second = omega arith

      -- ---- the basic column of one row through the steps
      -- row i leaves in one of the steps, for the first time, or it keeps its column
      abbrev Moves : ℕ → ℕ → ℕ → Type 0
      Moves i from to = (k : ℕ) × (from ≤ k) × (k < to) × (row k ≡ i) × (base k i ≡ base from i)

      -- row i keeps its column
      abbrev Keeps : ℕ → ℕ → ℕ → Type 0
      Keeps i from to = (k : ℕ) → from ≤ k → k ≤ to → base k i ≡ base from i

      first_move : (i from d : ℕ) → (Moves i from (from + d)) ⊎ (Keeps i from (from + d))
      first_move i from zero = inr (λ k f g. let e : k ≡ from = omega arith in ap (λ x. base x i) e)
      first_move i from (suc d) = by_cases (first_move i from d)
        where
          by_cases : (Moves i from (from + d)) ⊎ (Keeps i from (from + d)) → (Moves i from (from + suc d)) ⊎ (Keeps i from (from + suc d))
          by_cases (inl s) = inl (s.0, s.1, omega (arith, s.2), s.3, s.4)
          by_cases (inr s) = by_row (cases_eq (row (from + d)) i)
            where
              by_row : (row (from + d) ≡ i) ⊎ (row (from + d) ≡ i → ⊥) → (Moves i from (from + suc d)) ⊎ (Keeps i from (from + suc d))
              by_row (inl e) = inl (from + d, omega arith, omega arith, e, s (from + d) (omega arith) (omega arith))
              by_row (inr q) = inr (λ k f g. end k f g (cases_eq k (from + suc d)))
                where
                  end : (k : ℕ) → from ≤ k → k ≤ from + suc d → (k ≡ from + suc d) ⊎ (k ≡ from + suc d → ⊥) → base k i ≡ base from i
                  end k f g (inr z) = s k f (omega arith)
                  end k f g (inl z) = let y : k ≡ suc (from + d) = omega arith in
                      ap (λ x. base x i) y ∙ other_rows_keep_basis (from + d) i (λ e. q (sym e)) ∙ s (from + d) (omega arith) (omega arith)

      moves_between : (i from to : ℕ) → from ≤ to → (Moves i from to) ⊎ (Keeps i from to)
      moves_between i from to l = subst (λ (x : ℕ). (Moves i from x) ⊎ (Keeps i from x)) steps_reach (first_move i from (to - from))
        where
          steps_reach : from + (to - from) ≡ to
          steps_reach = omega arith

      -- a column of a row that moves leaves in the cycle
      abbrev Goes : ℕ → Type 0
      Goes x = (k : ℕ) × (a ≤ k) × (k < b) × (base k (row k) ≡ x)

      goes_or_stays : (i k : ℕ) → i < m → a ≤ k → k ≤ b → ((Goes (base k i)) × (right k i ≡ F.ring.null)) ⊎ ((j : ℕ) → a ≤ j → j ≤ b → base j i ≡ base k i)
      goes_or_stays i k hi f g = by_cases (moves_between i k b g) (moves_between i a k f)
        where
          column_goes : (j : ℕ) → a ≤ j → j < b → row j ≡ i → base j i ≡ base k i → (Goes (base k i)) × (right k i ≡ F.ring.null)
          column_goes j x y e q = ((j, x, y, ap (base j) e ∙ q), right_at k j i f g x (omega arith) ∙ ap (right j) (sym e) ∙ right_null j x y)

          by_cases : (Moves i k b) ⊎ (Keeps i k b) → (Moves i a k) ⊎ (Keeps i a k)
              → ((Goes (base k i)) × (right k i ≡ F.ring.null)) ⊎ ((j : ℕ) → a ≤ j → j ≤ b → base j i ≡ base k i)
          by_cases (inl s) _ = inl (column_goes s.0 (omega (arith, s.1)) s.2 s.3 s.4)
          by_cases (inr s) (inl u) = inl (column_goes u.0 u.1 (omega (arith, u.2)) u.3 (u.4 ∙ again i hi ∙ s b g (omega arith)))
          by_cases (inr s) (inr u) = inr (λ j x y. by_step j x y (cases_lt j k))
            where
              by_step : (j : ℕ) → a ≤ j → j ≤ b → (j < k) ⊎ (k ≤ j) → base j i ≡ base k i
              by_step j x y (inl z) = u j x (omega arith) ∙ sym (u k f (omega arith))
              by_step j x y (inr z) = s j z y

      -- the greatest column that leaves
      greatest_exists : (d : ℕ) → a + suc d ≤ b → (k : ℕ) × (a ≤ k) × (k < a + suc d) × ((j : ℕ) → a ≤ j → j < a + suc d → base j (row j) ≤ base k (row k))
      greatest_exists zero l = (
        a,
        omega arith,
        omega arith,
        λ j f g. let e : j ≡ a = omega arith
            in subst (λ (x : ℕ). base x (row x) ≤ base a (row a)) (sym e) (omega arith),
      )
      greatest_exists (suc d) l = by_cases (greatest_exists d (omega arith))
        where
          by_cases : ((k : ℕ) × (a ≤ k) × (k < a + suc d) × ((j : ℕ) → a ≤ j → j < a + suc d → base j (row j) ≤ base k (row k)))
              → (k : ℕ) × (a ≤ k) × (k < a + suc (suc d)) × ((j : ℕ) → a ≤ j → j < a + suc (suc d) → base j (row j) ≤ base k (row k))
          by_cases s = by_column (cases_lt (base s.0 (row s.0)) (base (a + suc d) (row (a + suc d))))
            where
              by_column : (base s.0 (row s.0) < base (a + suc d) (row (a + suc d))) ⊎ (base (a + suc d) (row (a + suc d)) ≤ base s.0 (row s.0))
                  → (k : ℕ) × (a ≤ k) × (k < a + suc (suc d)) × ((j : ℕ) → a ≤ j → j < a + suc (suc d) → base j (row j) ≤ base k (row k))
              by_column (inl q) = (a + suc d, omega arith, omega arith, λ j f g. end j f g (cases_eq j (a + suc d)))
                where
                  end : (j : ℕ) → a ≤ j → j < a + suc (suc d) → (j ≡ a + suc d) ⊎ (j ≡ a + suc d → ⊥) → base j (row j) ≤ base (a + suc d) (row (a + suc d))
                  end j f g (inl e) = subst (λ (x : ℕ). base x (row x) ≤ base (a + suc d) (row (a + suc d))) (sym e) (omega arith)
                  end j f g (inr e) = let z : base j (row j) ≤ base s.0 (row s.0) = s.3 j f (omega arith) in omega arith
              by_column (inr q) = (s.0, s.1, omega (arith, s.2), λ j f g. end j f g (cases_eq j (a + suc d)))
                where
                  end : (j : ℕ) → a ≤ j → j < a + suc (suc d) → (j ≡ a + suc d) ⊎ (j ≡ a + suc d → ⊥) → base j (row j) ≤ base s.0 (row s.0)
                  end j f g (inl e) = subst (λ (x : ℕ). base x (row x) ≤ base s.0 (row s.0)) (sym e) q
                  end j f g (inr e) = s.3 j f (omega arith)

      -- a row that comes to a column has it enter
      new_column_enters : (i x from d : ℕ) → base from i ≢ x → base (from + d) i ≡ x → (k : ℕ) × (from ≤ k) × (k < from + d) × (col k ≡ x)
      new_column_enters i x from zero n e = absurd (n (ap (λ y. base y i) no_steps ∙ e))
        where
          no_steps : from ≡ from + zero
          no_steps = omega arith
      new_column_enters i x from (suc d) n e = by_cases (cases_eq (base (from + d) i) x) (cases_eq i (row (from + d))) (λ q. new_column_enters i x from d n q)
        where
          later_step : suc (from + d) ≡ from + suc d
          later_step = omega arith

          by_cases : (base (from + d) i ≡ x) ⊎ (base (from + d) i ≡ x → ⊥) → (i ≡ row (from + d)) ⊎ (i ≡ row (from + d) → ⊥)
              → (base (from + d) i ≡ x → (k : ℕ) × (from ≤ k) × (k < from + d) × (col k ≡ x))
              → (k : ℕ) × (from ≤ k) × (k < from + suc d) × (col k ≡ x)
          by_cases (inl q) _ ih = let s = ih q in (s.0, s.1, omega (arith, s.2), s.3)
          by_cases (inr q) (inl y) ih = (
            from + d,
            omega arith,
            omega arith,
            sym (entering_becomes_basic (from + d))
                ∙ ap (base (suc (from + d))) (sym y) ∙ ap (λ z. base z i) later_step ∙ e,
          )
          by_cases (inr q) (inr y) ih = absurd (q (sym (other_rows_keep_basis (from + d) i y) ∙ ap (λ z. base z i) later_step ∙ e))

      arrives_to : (i x from to : ℕ) → from ≤ to → base from i ≢ x → base to i ≡ x → (k : ℕ) × (from ≤ k) × (k < to) × (col k ≡ x)
      arrives_to i x from to l n e =
          let s = new_column_enters i x from (to - from) n (ap (λ y. base y i) steps_reach ∙ e) in (s.0, s.1, omega (arith, s.2), s.3)
        where
          steps_reach : from + (to - from) ≡ to
          steps_reach = omega arith

      -- ---- the contradiction: P is the step at which the greatest column leaves
      module _ (P : ℕ) (fP : a ≤ P) (gP : P < b) (most : (j : ℕ) → a ≤ j → j < b → base j (row j) ≤ base P (row P)) where
        -- the greatest column that leaves, and its row
        abbrev top : ℕ
        top = base P (row P)

        abbrev row_within : row P < m
        row_within = (row_leaves P (omega arith)).row

        goes_least : (x : ℕ) → Goes x → x ≤ top
        goes_least x g = subst (λ (y : ℕ). y ≤ top) g.3 (most g.0 g.1 g.2)

        -- the column that enters at P is less
        entering_less : col P < top
        entering_less = by_cases (goes_or_stays (row P) (suc P) row_within (omega arith) (omega arith))
          where
            columns_differ : top ≢ col P
            columns_differ = entering_is_not_basic P (row P) (omega arith) row_within

            by_cases : ((Goes (base (suc P) (row P))) × (right (suc P) (row P) ≡ F.ring.null))
                ⊎ ((j : ℕ) → a ≤ j → j ≤ b → base j (row P) ≡ base (suc P) (row P)) → col P < top
            by_cases (inl g) = let l : base (suc P) (row P) ≤ top = goes_least (base (suc P) (row P)) g.0 in let e : base (suc P) (row P)
                ≡ col P = entering_becomes_basic P in entering_below_top l e
              where
                entering_below_top : base (suc P) (row P) ≤ top → base (suc P) (row P) ≡ col P → col P < top
                entering_below_top l e = omega (arith, subst (λ (y : ℕ). y ≤ top) e l, columns_differ)
            by_cases (inr u) = absurd (columns_differ (u P fP (omega arith) ∙ entering_becomes_basic P))

        -- the greatest column enters too
        top_enters : (k : ℕ) × (a ≤ k) × (k < b) × (col k ≡ top)
        top_enters = by_cases (cases_eq (base a (row P)) top)
          where
            by_cases : (base a (row P) ≡ top) ⊎ (base a (row P) ≡ top → ⊥) → (k : ℕ) × (a ≤ k) × (k < b) × (col k ≡ top)
            by_cases (inl e) = let s = arrives_to (row P) top (suc P) b (omega arith)
                (λ q. entering_is_not_basic P (row P) (omega arith) row_within (sym q ∙ entering_becomes_basic P))
                (sym (again (row P) row_within) ∙ e) in
                (s.0, omega (arith, s.1), s.2, s.3)
            by_cases (inr d) = let s = arrives_to (row P) top a P fP d refl in (s.0, s.1, omega (arith, s.2), s.3)

        module _ (Q : ℕ) (fQ : a ≤ Q) (gQ : Q < b) (eQ : col Q ≡ top) where
          -- the costs of the table after k steps, and what the column that enters at P has in row i
          abbrev cost : ℕ → ℕ → A
          cost k j = (table_after (operations_of F) m n t k).entry m j

          abbrev at_entering : ℕ → A
          at_entering i = (table_after (operations_of F) m n t P).entry i (col P)

          top_column : top < n
          top_column = subst (λ (x : ℕ). x < n) eQ (column_enters Q (omega arith)).column

          top_below : IsBelowZero F (cost Q top)
          top_below = subst (λ (x : ℕ). IsBelowZero F (cost Q x)) eQ (column_enters Q (omega arith)).below

          lesser_cost_least : (x : ℕ) → x < top → IsAtLeastZero F (cost Q x)
          lesser_cost_least x l = (column_enters Q (omega arith)).first x (subst (λ (y : ℕ). x < y) (sym eQ) l)

          -- what row i adds to the cost at Q of the column that enters at P
          abbrev term : ℕ → A
          term i = F.ring.mul (difference F.ring (cost Q (base P i)) (cost_of (operations_of F) m n (base P i))) (at_entering i)

          sum_neg : (f : ℕ → A) → sum_to F.ring m (λ i. F.ring.neg (f i)) ≡ F.ring.neg (sum_to F.ring m f)
          sum_neg f = sum_same F.ring m (λ i. F.ring.neg (f i)) (λ i. F.ring.mul (F.ring.neg F.ring.unit) (f i))
              (λ i _. ring F.ring (f i ∷ []) (minus (v 0)) (times (minus one) (v 0)) refl)
              ∙ sum_times_left F.ring m f (F.ring.neg F.ring.unit) ∙ ring F.ring (sum_to F.ring m f ∷ []) (times (minus one) (v 0)) (minus (v 0)) refl

          sum_is : sum_to F.ring m term ≡ F.ring.add (cost Q (col P)) (F.ring.neg (cost P (col P)))
          sum_is =
              sum_same F.ring m term (λ i. F.ring.add (F.ring.mul (cost Q (base P i)) (at_entering i))
              (F.ring.neg (F.ring.mul (cost_of (operations_of F) m n (base P i)) (at_entering i))))
              (λ i _. ring F.ring (cost Q (base P i) ∷ cost_of (operations_of F) m n (base P i) ∷ at_entering i ∷ [])
              (times (plus (v 0) (minus (v 1))) (v 2)) (plus (times (v 0) (v 2)) (minus (times (v 1) (v 2)))) refl)
              ∙ sum_add F.ring m (λ i. F.ring.mul (cost Q (base P i)) (at_entering i))
              (λ i. F.ring.neg (F.ring.mul (cost_of (operations_of F) m n (base P i)) (at_entering i)))
              ∙ ap₂ F.ring.add (sym (row_by_basis F m n p (table_after (operations_of F) m n t P) (table_after (operations_of F) m n t Q)
              (invariants_after P (omega arith)) (invariants_after Q (omega arith)) m (col P) (omega arith)))
              (sum_neg (λ i. F.ring.mul (cost_of (operations_of F) m n (base P i)) (at_entering i))
              ∙ ap F.ring.neg (sym ((invariants_after P (omega arith)).costs (col P))))

          sum_above : IsAboveZero F (sum_to F.ring m term)
          sum_above = subst (IsAboveZero F) (sym sum_is) (add-above F (cost Q (col P)) (F.ring.neg (cost P (col P))) (lesser_cost_least (col P) entering_less)
              (neg-above F (cost P (col P)) (column_enters P (omega arith)).below))

          no_term : (i : ℕ) → i < m → IsAboveZero F (term i) → ⊥
          no_term i hi g = by_cases (goes_or_stays i P hi fP (omega arith))
            where
              no_product : (x y e : A) → x ≡ y → F.ring.mul (difference F.ring x y) e ≡ F.ring.null
              no_product x y e q = ap (λ z. F.ring.mul (difference F.ring z y) e) q ∙ ring F.ring (y ∷ e ∷ []) (times (plus (v 0) (minus (v 0))) (v 1)) nil refl

              -- the term where the cost at P is 0
              term_is_product : base P i ≤ top → term i ≡ F.ring.mul (cost Q (base P i)) (at_entering i)
              term_is_product l = ap (λ d. F.ring.mul (difference F.ring (cost Q (base P i)) (cond d F.ring.null (F.ring.neg F.ring.unit)))
                  (at_entering i)) (lt-ltb (base P i) n (let c : top < n = top_column in omega arith))
                  ∙ ring F.ring (cost Q (base P i) ∷ at_entering i ∷ []) (times (plus (v 0) (minus nil)) (v 1)) (times (v 0) (v 1)) refl

              product_neg : (x e : A) → IsAtLeastZero F (F.ring.neg x) → IsAtLeastZero F e → IsAboveZero F (F.ring.mul x e) → ⊥
              product_neg x e hx he k = not_both F (F.ring.neg (F.ring.mul x e)) k
                  (subst (IsAtLeastZero F) (ring F.ring (x ∷ e ∷ []) (times (minus (v 0)) (v 1)) (minus (times (v 0) (v 1))) refl)
                  (F.order.mul-least (F.ring.neg x) e hx he))

              product_neg_right : (x e : A) → IsAtLeastZero F x → IsAtLeastZero F (F.ring.neg e) → IsAboveZero F (F.ring.mul x e) → ⊥
              product_neg_right x e hx he k = not_both F (F.ring.neg (F.ring.mul x e)) k
                  (subst (IsAtLeastZero F) (ring F.ring (x ∷ e ∷ []) (times (v 0) (minus (v 1))) (minus (times (v 0) (v 1))) refl)
                  (F.order.mul-least x (F.ring.neg e) hx he))

              null_ratio : (k : ℕ) → right P k ≡ F.ring.null → ratio (operations_of F) m n (table_after (operations_of F) m n t P) (col P) k ≡ F.ring.null
              null_ratio k e = ap (λ x. F.ring.mul x (F.order.inv (at_entering k))) e
                  ∙ F.ring.mul_comm F.ring.null (F.order.inv (at_entering k)) ∙ mul-null F.ring (F.order.inv (at_entering k))

              less_top : base P i < top → right P i ≡ F.ring.null → IsAboveZero F (F.ring.mul (cost Q (base P i)) (at_entering i))
                  → (IsAtLeastZero F (F.ring.neg (at_entering i))) ⊎ (IsAboveZero F (at_entering i)) → ⊥
              less_top l z k (inl q) = product_neg_right (cost Q (base P i)) (at_entering i) (lesser_cost_least (base P i) l) q k
              less_top l z k (inr q) =
                  let w : top ≤ base P i = (row_leaves P (omega arith)).first i hi q
                  (null_ratio i z ∙ sym (null_ratio (row P) (right_null P fP gP))) in absurd (omega arith)

              by_cases : ((Goes (base P i)) × (right P i ≡ F.ring.null)) ⊎ ((j : ℕ) → a ≤ j → j ≤ b → base j i ≡ base P i) → ⊥
              by_cases (inr u) = above-apart F (term i) g (no_product (cost Q (base P i)) (cost_of (operations_of F) m n (base P i)) (at_entering i)
                  (ap (cost Q) (sym (u Q fQ (omega arith))) ∙ basic_cost F m n p (table_after (operations_of F) m n t Q)
                  (invariants_after Q (omega arith)) i hi ∙ ap (cost_of (operations_of F) m n) (u Q fQ (omega arith))))
              by_cases (inl s) = by_column (cases_eq (base P i) top) (goes_least (base P i) s.0)
                where
                  by_column : (base P i ≡ top) ⊎ (base P i ≡ top → ⊥) → base P i ≤ top → ⊥
                  by_column (inl e) l =
                      let same : i ≡ row P = basic_columns_differ F m n p (table_after (operations_of F) m n t P)
                      (invariants_after P (omega arith)) i (row P) hi row_within e in
                      product_neg (cost Q top) (at_entering (row P)) (below-neg F (cost Q top) top_below)
                      (above-least F (at_entering (row P)) (row_leaves P (omega arith)).above)
                      (subst (λ (k : ℕ). IsAboveZero F (F.ring.mul (cost Q (base P k)) (at_entering k))) same (subst (IsAboveZero F) (term_is_product l) g))
                  by_column (inr d) l = less_top (omega arith) s.1 (subst (IsAboveZero F) (term_is_product l) g)
                      (cases_Bool (F.order.is_least (F.ring.neg (at_entering i))))

          contradiction : ⊥
          contradiction =
              let s = some_below F m (λ i. F.ring.neg (term i)) (sym (ap F.order.is_least (sym (sum_neg term))) ∙ sum_above) in no_term s.0 s.1 s.2

      pub never_again : ⊥
      never_again = by_cases (greatest_exists (b - a - 1) (omega arith))
        where
          steps_reach : a + suc (b - a - 1) ≡ b
          steps_reach = omega arith

          by_cases : (k : ℕ) × (a ≤ k) × (k < a + suc (b - a - 1)) × ((j : ℕ) → a ≤ j → j < a + suc (b - a - 1) → base j (row j) ≤ base k (row k)) → ⊥
          by_cases s = let gP : s.0 < b = omega (arith, s.2) in
              let most : (j : ℕ) → a ≤ j → j < b → base j (row j) ≤ base s.0 (row s.0) = λ j f g. s.3 j f (omega arith) in
              let q = top_enters s.0 s.1 gP most in contradiction s.0 s.1 gP most q.0 q.1 q.2 q.3
