-- The chosen column and row are those of Bland's rule: the least column with a cost below 0, and of the rows with an entry above
-- 0 the one with the least ratio, of several the one with the least basic column.
use Rattle.std.proofs.Common.{◌≡◌, ℕ, zero, suc, ◌+◌, ◌<◌, ◌≤◌, Bool, true, false, cond, eqb, ltb, not, ◌&&◌, [], ◌∷◌, refl, sym, ap, subst, ◌∙◌, ◌⊎◌, inl, inr, arith}
use Rattle.std.proofs.lemmas.Bool.{eq-eqb, ne_eqb, cases_eq, cases_lt, ltb-true, ltb-false, not-true, true≢false, false≢true}
use Rattle.it_number.proofs.Ring.{ring, mul-null, v, plus, times, minus, one}
use Rattle.it_rational.proofs.Ordered.{null-least, not_both, below-neg, below-apart}
use Rattle.it_rational.specs.OrderedFields.{OrderedField, IsAtLeastZero, IsBelowZero, IsAboveZero}
use Rattle.it_tableau.specs.FieldOperations.{operations_of, difference}
use Rattle.it_tableau.specs.SimplexTables.{SimplexTable, FeasibilityProblem, ratio}
use Rattle.it_tableau.specs.Invariants.{cost_of, HasInvariants, MayEnter}
use Rattle.it_run.specs.Choice.{first_false, entering_column, is_candidate, precedes, leaving_row_of, leaving_row, IsStuck}
use Rattle.it_tableau.proofs.Sums.{some_below}
use native.Mathlib.Nat.{eq-or-lt_of_le, le_of_suc-le-suc}

pub first_before : (f : ℕ → Bool) (k left j : ℕ) → k ≤ j → j < first_false f k left → f j ≡ true
first_before f k zero j h l = absurd (omega arith)
first_before f k (suc left) j h l = by_test (f k) refl l (λ a b. first_before f (suc k) left j a b)
  where
    by_test : (b : Bool) → f k ≡ b → j < cond b (first_false f (suc k) left) k → (suc k ≤ j → j < first_false f (suc k) left → f j ≡ true) → f j ≡ true
    by_test false e l ih = absurd (omega arith)
    by_test true e l ih = by_cases (cases_eq j k)
      where
        by_cases : (j ≡ k) ⊎ (j ≡ k → ⊥) → f j ≡ true
        by_cases (inl q) = ap f q ∙ e
        by_cases (inr d) = ih (omega arith) l

pub first_at : (f : ℕ → Bool) (k left : ℕ) → first_false f k left < k + left → f (first_false f k left) ≡ false
first_at f k zero l = absurd (omega arith)
first_at f k (suc left) l = by_test (f k) refl l (λ a. first_at f (suc k) left a)
  where
    by_test : (b : Bool) → f k ≡ b → cond b (first_false f (suc k) left) k < k + suc left
        → (first_false f (suc k) left < suc k + left → f (first_false f (suc k) left) ≡ false)
        → f (cond b (first_false f (suc k) left) k) ≡ false
    by_test false e l ih = e
    by_test true e l ih = ih (omega arith)

module _ {A : Type 0} (F : OrderedField A) (m n : ℕ) where
  -- column c enters: it is no artificial, has a cost below 0 and is the first such
  pub record Enters (t : SimplexTable A) (c : ℕ) : Type 0 where
    pub column : c < n
    pub below : IsBelowZero F (t.entry m c)
    pub first : (j : ℕ) → j < c → IsAtLeastZero F (t.entry m j)

  -- row r leaves at column c: of the rows with an entry above 0 it has the least ratio, and the least basic column of those
  pub record Leaves (t : SimplexTable A) (c r : ℕ) : Type 0 where
    pub row : r < m
    pub above : IsAboveZero F (t.entry r c)
    pub least : (i : ℕ) → i < m → IsAboveZero F (t.entry i c)
        → IsAtLeastZero F (difference F.ring (ratio (operations_of F) m n t c i) (ratio (operations_of F) m n t c r))
    pub first : (i : ℕ) → i < m → IsAboveZero F (t.entry i c) → ratio (operations_of F) m n t c i ≡ ratio (operations_of F) m n t c r → t.basis r ≤ t.basis i

  -- they may make a step
  pub may_enter : (t : SimplexTable A) (c r : ℕ) → Enters t c → Leaves t c r → MayEnter (operations_of F) m n t r c
  may_enter t c r e l = record { column = e.column; row = l.row; above = l.above; least = l.least }

  pub entering_is : (t : SimplexTable A) → entering_column (operations_of F) m n t < n → Enters t (entering_column (operations_of F) m n t)
  entering_is t h = record {
    column = h;
    below = first_at (λ j. F.order.is_least (t.entry m j)) 0 n (omega arith);
    first = λ j l. first_before (λ j. F.order.is_least (t.entry m j)) 0 n j (omega arith) l;
  }

  pub some_column : (t : SimplexTable A) → ¬ (IsStuck (operations_of F) m n t) → entering_column (operations_of F) m n t < n
  some_column t s = by_cases (cases_lt (entering_column (operations_of F) m n t) n)
    where
      by_cases : (entering_column (operations_of F) m n t < n) ⊎ (n ≤ entering_column (operations_of F) m n t) → entering_column (operations_of F) m n t < n
      by_cases (inl h) = h
      by_cases (inr h) = absurd (s (λ j l. first_before (λ j. F.order.is_least (t.entry m j)) 0 n j (omega arith) (omega arith)))

  -- an entering column has a row with a positive entry
  pub some_row : (p : FeasibilityProblem A) (t : SimplexTable A) (c : ℕ) → HasInvariants (operations_of F) m n p t
      → IsBelowZero F (t.entry m c) → (i : ℕ) × (i < m) × IsAboveZero F (t.entry i c)
  some_row p t c h b =
      let s = some_below F m (λ i. F.ring.mul (cost_of (operations_of F) m n (t.basis i)) (t.entry i c)) (subst (IsBelowZero F) (h.costs c) b) in
      (s.0, s.1, by_test (ltb (t.basis s.0) n) (t.entry s.0 c) s.2)
    where
      by_test : (b : Bool) (x : A) → IsBelowZero F (F.ring.mul (cond b F.ring.null (F.ring.neg F.ring.unit)) x) → IsAboveZero F x
      by_test true x k = absurd (below-apart F (F.ring.mul F.ring.null x) k (F.ring.mul_comm F.ring.null x ∙ mul-null F.ring x))
      by_test false x k = subst (IsBelowZero F) (ring F.ring (x ∷ []) (times (minus one) (v 0)) (minus (v 0)) refl) k

  -- the best row below a number of rows
  pub record IsBestBelow (t : SimplexTable A) (c bound best : ℕ) : Type 0 where
    pub row : best < bound
    pub above : is_candidate (operations_of F) t c best ≡ true
    pub least : (i : ℕ) → i < bound → is_candidate (operations_of F) t c i ≡ true
        → IsAtLeastZero F (difference F.ring (ratio (operations_of F) m n t c i) (ratio (operations_of F) m n t c best))
    pub first : (i : ℕ) → i < bound → is_candidate (operations_of F) t c i ≡ true
        → ratio (operations_of F) m n t c i ≡ ratio (operations_of F) m n t c best → t.basis best ≤ t.basis i

  -- it is m where no row below the number has an entry above 0, else the best of them
  abbrev IsBestOrNone : SimplexTable A → ℕ → ℕ → ℕ → Type 0
  IsBestOrNone t c bound best = ((best ≡ m) × ((i : ℕ) → i < bound → is_candidate (operations_of F) t c i ≡ false)) ⊎ IsBestBelow t c bound best

  opposite_of_below : (a b : A) → IsBelowZero F (difference F.ring a b) → IsAtLeastZero F (difference F.ring b a)
  opposite_of_below a b h = subst (IsAtLeastZero F) (ring F.ring (a ∷ b ∷ []) (minus (plus (v 0) (minus (v 1))))
      (plus (v 1) (minus (v 0))) refl) (below-neg F (difference F.ring a b) h)

  at_least_chain : (a b c : A) → IsAtLeastZero F (difference F.ring a b) → IsAtLeastZero F (difference F.ring b c) → IsAtLeastZero F (difference F.ring a c)
  at_least_chain a b c h k = subst (IsAtLeastZero F) (ring F.ring (a ∷ b ∷ c ∷ [])
      (plus (plus (v 0) (minus (v 1))) (plus (v 1) (minus (v 2)))) (plus (v 0) (minus (v 2))) refl)
      (F.order.add-least (difference F.ring a b) (difference F.ring b c) h k)

  pub equal_by_order : (a b : A) → IsAtLeastZero F (difference F.ring a b) → IsAtLeastZero F (difference F.ring b a) → a ≡ b
  equal_by_order a b h k = ring F.ring (a ∷ b ∷ []) (v 0) (plus (plus (v 0) (minus (v 1))) (v 1)) refl
      ∙ ap (λ x. F.ring.add x b) (F.order.strict (difference F.ring a b) h
      (subst (IsAtLeastZero F) (ring F.ring (a ∷ b ∷ []) (plus (v 1) (minus (v 0))) (minus (plus (v 0) (minus (v 1)))) refl) k))
      ∙ F.ring.null-add b

  same-least : (a b : A) → a ≡ b → IsAtLeastZero F (difference F.ring a b)
  same-least a b e = subst (λ (x : A). IsAtLeastZero F (difference F.ring a x)) e (subst (IsAtLeastZero F) (sym (F.ring.add-neg a)) (null-least F))

  leaving_best : (t : SimplexTable A) (c i : ℕ) → i ≤ m → IsBestOrNone t c i (leaving_row_of (operations_of F) m n t c i)
  leaving_best t c zero h = inl (refl, λ i l. absurd (omega arith))
  leaving_best t c (suc i) h = by_test (is_candidate (operations_of F) t c i) refl (leaving_best t c i (omega arith))
    where
      row_ratio : ℕ → A
      row_ratio = ratio (operations_of F) m n t c

      best_row : ℕ
      best_row = leaving_row_of (operations_of F) m n t c i

      below_suc : (P : ℕ → Type 0) (k : ℕ) → k < suc i → (k < i → P k) → (k ≡ i → P k) → P k
      below_suc P k l f g = by_cases (eq-or-lt_of_le (le_of_suc-le-suc l))
        where
          by_cases : (k ≡ i) ⊎ (k < i) → P k
          by_cases (inl e) = g e
          by_cases (inr l) = f l

      no_candidate : (k : ℕ) → k ≡ i → is_candidate (operations_of F) t c i ≡ false → is_candidate (operations_of F) t c k ≡ true → ⊥
      no_candidate k e f g = true≢false (sym g ∙ ap (is_candidate (operations_of F) t c) e ∙ f)

      -- row i is the first open one
      first_is_best : is_candidate (operations_of F) t c i ≡ true → ((k : ℕ) → k < i → is_candidate (operations_of F) t c k ≡ false) → IsBestBelow t c (suc i) i
      first_is_best o f = record {
        row = omega arith;
        above = o;
        least = λ k l g. below_suc (λ k. IsAtLeastZero F (difference F.ring (row_ratio k) (row_ratio i))) k l
            (λ a. absurd (true≢false (sym g ∙ f k a))) (λ e. same-least (row_ratio k) (row_ratio i) (ap row_ratio e));
        first = λ k l g _. below_suc (λ k. t.basis i ≤ t.basis k) k l (λ a. absurd (true≢false (sym g ∙ f k a)))
            (λ e. subst (λ (x : ℕ). t.basis i ≤ t.basis x) (sym e) (omega arith));
      }

      -- row i comes before the best so far
      row_is_best : is_candidate (operations_of F) t c i ≡ true → IsBestBelow t c i best_row → (b d : Bool)
          → F.order.is_least (difference F.ring (row_ratio i) (row_ratio best_row)) ≡ b
          → F.order.is_least (difference F.ring (row_ratio best_row) (row_ratio i)) ≡ d
          → cond b (d && ltb (t.basis i) (t.basis best_row)) true ≡ true → IsBestBelow t c (suc i) i
      row_is_best o s false d e f g = record {
        row = omega arith;
        above = o;
        least = λ k l w. below_suc (λ k. IsAtLeastZero F (difference F.ring (row_ratio k) (row_ratio i))) k l
            (λ a. at_least_chain (row_ratio k) (row_ratio best_row) (row_ratio i) (s.least k a w)
            (opposite_of_below (row_ratio i) (row_ratio best_row) e)) (λ x. same-least (row_ratio k) (row_ratio i) (ap row_ratio x));
        first = λ k l w x. below_suc (λ k. t.basis i ≤ t.basis k) k l
            (λ a. absurd (not_both F (difference F.ring (row_ratio i) (row_ratio best_row)) e
            (subst (λ (y : A). IsAtLeastZero F (difference F.ring y (row_ratio best_row))) x (s.least k a w))))
            (λ x. subst (λ (y : ℕ). t.basis i ≤ t.basis y) (sym x) (omega arith));
      }
      row_is_best o s true false e f g = absurd (false≢true g)
      row_is_best o s true true e f g =
          let y : row_ratio i ≡ row_ratio best_row = equal_by_order (row_ratio i) (row_ratio best_row) e f in
          let l : t.basis i < t.basis best_row = ltb-true (t.basis i) (t.basis best_row) g in record {
            row = omega arith;
            above = o;
            least = λ k l w. below_suc (λ k. IsAtLeastZero F (difference F.ring (row_ratio k) (row_ratio i))) k l
                (λ a. subst (λ (z : A). IsAtLeastZero F (difference F.ring (row_ratio k) z)) (sym y) (s.least k a w))
                (λ x. same-least (row_ratio k) (row_ratio i) (ap row_ratio x));
            first = λ k h w x. below_suc (λ k. t.basis i ≤ t.basis k) k h
                (λ a. let z : t.basis best_row ≤ t.basis k = s.first k a w (x ∙ y) in omega arith)
                (λ x. subst (λ (y : ℕ). t.basis i ≤ t.basis y) (sym x) (omega arith));
          }

      -- the best so far stays
      best_stays : is_candidate (operations_of F) t c i ≡ true → IsBestBelow t c i best_row → (b d : Bool)
          → F.order.is_least (difference F.ring (row_ratio i) (row_ratio best_row)) ≡ b
          → F.order.is_least (difference F.ring (row_ratio best_row) (row_ratio i)) ≡ d
          → cond b (d && ltb (t.basis i) (t.basis best_row)) true ≡ false → IsBestBelow t c (suc i) best_row
      best_stays o s false d e f g = absurd (true≢false g)
      best_stays o s true d e f g = record {
        row = (let r = s.row in omega arith);
        above = s.above;
        least = λ k l w. below_suc (λ k. IsAtLeastZero F (difference F.ring (row_ratio k) (row_ratio best_row))) k l (λ a. s.least k a w)
            (λ x. subst (λ (y : ℕ). IsAtLeastZero F (difference F.ring (row_ratio y) (row_ratio best_row))) (sym x) e);
        first = λ k l w x. below_suc (λ k. t.basis best_row ≤ t.basis k) k l (λ a. s.first k a w x)
            (λ y. subst (λ (z : ℕ). t.basis best_row ≤ t.basis z) (sym y) (basis_at_most d f g
            (same-least (row_ratio best_row) (row_ratio i) (sym x ∙ ap row_ratio y))));
      }
        where
          basis_at_most : (d : Bool) → F.order.is_least (difference F.ring (row_ratio best_row) (row_ratio i)) ≡ d
              → (d && ltb (t.basis i) (t.basis best_row)) ≡ false → IsAtLeastZero F (difference F.ring (row_ratio best_row) (row_ratio i))
              → t.basis best_row ≤ t.basis i
          basis_at_most true f g k = ltb-false (t.basis i) (t.basis best_row) g
          basis_at_most false f g k = absurd (not_both F (difference F.ring (row_ratio best_row) (row_ratio i)) f k)

      by_test : (b : Bool) → is_candidate (operations_of F) t c i ≡ b → IsBestOrNone t c i best_row
          → IsBestOrNone t c (suc i) (cond b (cond (eqb best_row m) i (cond (precedes (operations_of F) m n t c i best_row) i best_row)) best_row)
      by_test false o (inl s) = inl (
        s.0,
        λ k l. below_suc (λ k. is_candidate (operations_of F) t c k ≡ false) k l (s.1 k)
            (λ e. ap (is_candidate (operations_of F) t c) e ∙ o),
      )
      by_test false o (inr s) = inr record {
        row = (let r = s.row in omega arith);
        above = s.above;
        least = λ k l w. below_suc (λ k. IsAtLeastZero F (difference F.ring (row_ratio k) (row_ratio best_row))) k l (λ a. s.least k a w)
            (λ e. absurd (no_candidate k e o w));
        first = λ k l w x. below_suc (λ k. t.basis best_row ≤ t.basis k) k l (λ a. s.first k a w x) (λ e. absurd (no_candidate k e o w));
      }
      by_test true o (inl s) = subst (λ (b : Bool). IsBestOrNone t c (suc i)
          (cond b i (cond (precedes (operations_of F) m n t c i best_row) i best_row))) (sym (eq-eqb best_row m s.0))
          (inr (first_is_best o s.1))
      by_test true o (inr s) = subst (λ (b : Bool). IsBestOrNone t c (suc i)
          (cond b i (cond (precedes (operations_of F) m n t c i best_row) i best_row)))
          (sym (ne_eqb best_row m (λ e. let r = s.row in omega arith)))
          (by_order_test (precedes (operations_of F) m n t c i best_row) refl)
        where
          by_order_test : (b : Bool) → precedes (operations_of F) m n t c i best_row ≡ b → IsBestOrNone t c (suc i) (cond b i best_row)
          by_order_test true e = inr (row_is_best o s (F.order.is_least (difference F.ring (row_ratio i) (row_ratio best_row)))
              (F.order.is_least (difference F.ring (row_ratio best_row) (row_ratio i))) refl refl e)
          by_order_test false e = inr (best_stays o s (F.order.is_least (difference F.ring (row_ratio i) (row_ratio best_row)))
              (F.order.is_least (difference F.ring (row_ratio best_row) (row_ratio i))) refl refl e)

  above_is_candidate : (t : SimplexTable A) (c i : ℕ) → IsAboveZero F (t.entry i c) → is_candidate (operations_of F) t c i ≡ true
  above_is_candidate t c i h = ap not h

  pub leaving_is : (p : FeasibilityProblem A) (t : SimplexTable A) (c : ℕ) → HasInvariants (operations_of F) m n p t
      → IsBelowZero F (t.entry m c) → Leaves t c (leaving_row (operations_of F) m n t c)
  leaving_is p t c h b = by_cases (leaving_best t c m (omega arith)) (some_row p t c h b)
    where
      by_cases : IsBestOrNone t c m (leaving_row (operations_of F) m n t c) → ((i : ℕ) × (i < m) × IsAboveZero F (t.entry i c))
          → Leaves t c (leaving_row (operations_of F) m n t c)
      by_cases (inl s) w = absurd (true≢false (sym (above_is_candidate t c w.0 w.2) ∙ s.1 w.0 w.1))
      by_cases (inr s) w = record {
        row = s.row;
        above = not-true (F.order.is_least (F.ring.neg (t.entry (leaving_row (operations_of F) m n t c) c))) s.above;
        least = λ i l k. s.least i l (above_is_candidate t c i k);
        first = λ i l k e. s.first i l (above_is_candidate t c i k) e;
      }
