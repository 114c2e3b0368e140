-- What a run does depends on the rows, the columns and the right sides of its table alone: tables that agree there have as many
-- steps left.
use Rattle.std.proofs.Common.{◌≡◌, ℕ, zero, suc, ◌+◌, ◌<◌, ◌≤◌, Bool, true, false, cond, eqb, ltb, ◌&&◌, refl, sym, ap, ap₂, subst, ◌∙◌, ◌⊎◌, inl, inr, arith, not}
use Rattle.std.proofs.lemmas.Bool.{cases_eq, eq-eqb}
use Rattle.it_rational.specs.OrderedFields.{OrderedField}
use Rattle.it_tableau.specs.FieldOperations.{operations_of, difference}
use Rattle.it_tableau.specs.SimplexTables.{SimplexTable, pivot, ratio}
use Rattle.it_tableau.proofs.ViewLemmas.{same_functions}
use Rattle.it_run.specs.Choice.{first_false, entering_column, is_candidate, precedes, leaving_row_of, leaving_row, next}
use Rattle.it_run.specs.Meetings.{table_after}
use Rattle.it_run.proofs.SearchLemmas.{first_false_agrees, first_false_at_most}
use Rattle.it_run.proofs.StepsLeft.{most_steps, steps_left}

module _ {A : Type 0} (F : OrderedField A) (m n : ℕ) where
  -- the tables have the same entries and the same basic columns
  pub record Agree (t s : SimplexTable A) : Type 0 where
    pub entries : (i j : ℕ) → i ≤ m → j ≤ n + m → t.entry i j ≡ s.entry i j
    pub basics : (i : ℕ) → i < m → t.basis i ≡ s.basis i

  entering_most : (t : SimplexTable A) → entering_column (operations_of F) m n t ≤ n
  entering_most t = let l = first_false_at_most (λ j. F.order.is_least (t.entry m j)) 0 n in omega (arith, l)

  leaving_most : (t : SimplexTable A) (c i : ℕ) → i ≤ m → leaving_row_of (operations_of F) m n t c i ≤ m
  leaving_most t c zero h = omega arith
  leaving_most t c (suc i) h = by_cases (leaving_most t c i (omega arith))
    where
      best_row : ℕ
      best_row = leaving_row_of (operations_of F) m n t c i

      by_test : (b : Bool) {x y : ℕ} → x ≤ m → y ≤ m → cond b x y ≤ m
      by_test true f g = f
      by_test false f g = g

      by_cases : leaving_row_of (operations_of F) m n t c i ≤ m → leaving_row_of (operations_of F) m n t c (suc i) ≤ m
      by_cases up = by_test (is_candidate (operations_of F) t c i) (by_test (eqb best_row m) (omega arith)
          (by_test (precedes (operations_of F) m n t c i best_row) (omega arith) up)) up

  module _ (t s : SimplexTable A) (a : Agree t s) where
    entering_agrees : entering_column (operations_of F) m n t ≡ entering_column (operations_of F) m n s
    entering_agrees = first_false_agrees (λ j. F.order.is_least (t.entry m j)) (λ j. F.order.is_least (s.entry m j)) 0 n
        (λ j _ l. ap F.order.is_least (a.entries m j (omega arith) (omega arith)))

    module _ (c : ℕ) (hc : c ≤ n) where
      candidate_agrees : (i : ℕ) → i ≤ m → is_candidate (operations_of F) t c i ≡ is_candidate (operations_of F) s c i
      candidate_agrees i h = ap (λ x. not (F.order.is_least (F.ring.neg x))) (a.entries i c h (omega arith))

      ratio_agrees : (i : ℕ) → i ≤ m → ratio (operations_of F) m n t c i ≡ ratio (operations_of F) m n s c i
      ratio_agrees i h = ap₂ (λ x y. F.ring.mul x (F.order.inv y)) (a.entries i (n + m) h (omega arith)) (a.entries i c h (omega arith))

      precedes_agrees : (i k : ℕ) → i < m → k < m → precedes (operations_of F) m n t c i k ≡ precedes (operations_of F) m n s c i k
      precedes_agrees i k hi hk =
          ap₂ (λ x y. cond (F.order.is_least (difference F.ring x y)) (F.order.is_least (difference F.ring y x)
          && ltb (t.basis i) (t.basis k)) true) (ratio_agrees i (omega arith)) (ratio_agrees k (omega arith))
          ∙ ap₂ (λ x y. cond (F.order.is_least (difference F.ring (ratio (operations_of F) m n s c i) (ratio (operations_of F) m n s c k)))
          (F.order.is_least (difference F.ring (ratio (operations_of F) m n s c k) (ratio (operations_of F) m n s c i)) && ltb x y) true)
          (a.basics i hi) (a.basics k hk)

      leaving_agrees : (i : ℕ) → i ≤ m → leaving_row_of (operations_of F) m n t c i ≡ leaving_row_of (operations_of F) m n s c i
      leaving_agrees zero h = refl
      leaving_agrees (suc i) h =
          by_cases (leaving_row_of (operations_of F) m n t c i) (cases_eq (leaving_row_of (operations_of F) m n t c i) m) (leaving_most t c i (omega arith))
          ∙ ap (λ x. cond (is_candidate (operations_of F) s c i) (cond (eqb x m) i (cond (precedes (operations_of F) m n s c i x) i x)) x)
          (leaving_agrees i (omega arith))
        where
          by_cases : (x : ℕ) → (x ≡ m) ⊎ (x ≡ m → ⊥) → x ≤ m
              → cond (is_candidate (operations_of F) t c i) (cond (eqb x m) i (cond (precedes (operations_of F) m n t c i x) i x)) x
              ≡ cond (is_candidate (operations_of F) s c i) (cond (eqb x m) i (cond (precedes (operations_of F) m n s c i x) i x)) x
          by_cases x (inl e) l = ap₂ (λ b d. cond b (cond d i (cond (precedes (operations_of F) m n t c i x) i x)) x)
              (candidate_agrees i (omega arith)) (eq-eqb x m e)
              ∙ ap (λ d. cond (is_candidate (operations_of F) s c i) (cond d i (cond (precedes (operations_of F) m n s c i x) i x)) x) (sym (eq-eqb x m e))
          by_cases x (inr d) l = ap₂ (λ b q. cond b (cond (eqb x m) i (cond q i x)) x) (candidate_agrees i (omega arith))
              (precedes_agrees i x (omega arith) (omega arith))

    pivot_agrees : (r c : ℕ) → r ≤ m → c ≤ n → Agree (pivot (operations_of F) t r c) (pivot (operations_of F) s r c)
    pivot_agrees r c hr hc = record {
      entries = λ i j hi hj.
          ap₂ (λ x y. cond (eqb i r) (F.ring.mul x (F.order.inv y)) (difference F.ring (t.entry i j)
          (F.ring.mul x (F.ring.mul (t.entry i c) (F.order.inv y))))) (a.entries r j hr hj) (a.entries r c hr (omega arith))
          ∙ ap₂ (λ x y. cond (eqb i r) (F.ring.mul (s.entry r j) (F.order.inv (s.entry r c)))
          (difference F.ring x (F.ring.mul (s.entry r j) (F.ring.mul y (F.order.inv (s.entry r c)))))) (a.entries i j hi hj)
          (a.entries i c hi (omega arith));
      basics = λ i h. ap (λ x. cond (eqb i r) c x) (a.basics i h);
    }

    next_agrees : Agree (next (operations_of F) m n t) (next (operations_of F) m n s)
    next_agrees =
        let c = entering_column (operations_of F) m n t in
        let r = leaving_row (operations_of F) m n t (entering_column (operations_of F) m n t) in
        let same : leaving_row (operations_of F) m n t (entering_column (operations_of F) m n t)
        ≡ leaving_row (operations_of F) m n s (entering_column (operations_of F) m n s) =
        leaving_agrees (entering_column (operations_of F) m n t) (entering_most t) m (omega arith) ∙ ap (leaving_row (operations_of F) m n s) entering_agrees in
        subst (λ (x : ℕ). Agree (next (operations_of F) m n t) (pivot (operations_of F) s x (entering_column (operations_of F) m n s))) same
        (subst (λ (y : ℕ). Agree (next (operations_of F) m n t) (pivot (operations_of F) s
        (leaving_row (operations_of F) m n t (entering_column (operations_of F) m n t)) y)) entering_agrees
        (pivot_agrees (leaving_row (operations_of F) m n t (entering_column (operations_of F) m n t))
        (entering_column (operations_of F) m n t) (leaving_most t (entering_column (operations_of F) m n t) m (omega arith))
        (entering_most t)))

  after_agrees : (t s : SimplexTable A) → Agree t s → (k : ℕ) → Agree (table_after (operations_of F) m n t k) (table_after (operations_of F) m n s k)
  after_agrees t s a zero = a
  after_agrees t s a (suc k) = next_agrees (table_after (operations_of F) m n t k) (table_after (operations_of F) m n s k) (after_agrees t s a k)

  pub steps_left_agrees : (t s : SimplexTable A) → Agree t s → steps_left F m n t ≡ steps_left F m n s
  steps_left_agrees t s a = ap (λ (f : ℕ → Bool). first_false f 0 (suc (most_steps F m n)))
      (same_functions (λ k. ap (λ c. ltb c n) (entering_agrees (table_after (operations_of F) m n t k)
      (table_after (operations_of F) m n s k) (after_agrees t s a k))))
