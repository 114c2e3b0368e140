-- A pivot that keeps the right sides at least 0 keeps the invariants.
use Rattle.std.proofs.Common.{◌≡◌, ◌≢◌, ℕ, zero, suc, ◌+◌, ◌<◌, ◌≤◌, Bool, true, false, cond, eqb, [], ◌∷◌, refl, sym, ap, ap₂, subst, ◌∙◌, ◌⊎◌, inl, inr, arith}
use Rattle.std.proofs.lemmas.Bool.{eq-eqb, ne_eqb, eqb-true, cases_eq, lt-ltb, cases_Bool}
use Rattle.it_number.proofs.Ring.{ring, mul-null, v, plus, times, minus, nil, one}
use Rattle.it_rational.proofs.Ordered.{inv-least, inv-above, above-least}
use Rattle.it_rational.specs.OrderedFields.{OrderedField, IsAtLeastZero, IsAboveZero}
use Rattle.it_tableau.specs.FieldOperations.{operations_of, sum_to, difference}
use Rattle.it_tableau.specs.SimplexTables.{SimplexTable, FeasibilityProblem, start_row, pivot}
use Rattle.it_tableau.specs.Invariants.{cost_of, CombinesStart, HasInvariants, MayEnter}
use Rattle.it_tableau.proofs.Sums.{sum_same, sum_times, sum_changed}
use Rattle.it_tableau.proofs.BasicColumns.{pivot_sum}

module _ {A : Type 0} (F : OrderedField A) (m n : ℕ) where
  -- the pivot row and the others
  pub pivot_row : (t : SimplexTable A) (r c j : ℕ) → (pivot (operations_of F) t r c).entry r j ≡ F.ring.mul (t.entry r j) (F.order.inv (t.entry r c))
  pivot_row t r c j = ap (λ b. cond b (F.ring.mul (t.entry r j) (F.order.inv (t.entry r c)))
      (difference F.ring (t.entry r j) (F.ring.mul (t.entry r j) (F.ring.mul (t.entry r c) (F.order.inv (t.entry r c)))))) (eq-eqb r r refl)

  pub other_row : (t : SimplexTable A) (r c i j : ℕ) → i ≢ r → (pivot (operations_of F) t r c).entry i j
      ≡ difference F.ring (t.entry i j) (F.ring.mul (t.entry r j) (F.ring.mul (t.entry i c) (F.order.inv (t.entry r c))))
  other_row t r c i j h = ap (λ b. cond b (F.ring.mul (t.entry r j) (F.order.inv (t.entry r c)))
      (difference F.ring (t.entry i j) (F.ring.mul (t.entry r j) (F.ring.mul (t.entry i c) (F.order.inv (t.entry r c)))))) (ne_eqb i r h)

  pub new_basis : (t : SimplexTable A) (r c : ℕ) → (pivot (operations_of F) t r c).basis r ≡ c
  new_basis t r c = ap (λ b. cond b c (t.basis r)) (eq-eqb r r refl)

  pub old_basis : (t : SimplexTable A) (r c i : ℕ) → i ≢ r → (pivot (operations_of F) t r c).basis i ≡ t.basis i
  old_basis t r c i h = ap (λ b. cond b c (t.basis i)) (ne_eqb i r h)

  -- after any pivot each row is still a sum of start rows
  pub kept_combines : (p : FeasibilityProblem A) (t : SimplexTable A) (r c : ℕ) → r < m → CombinesStart (operations_of F) m n p t → (i j : ℕ) → i ≤ m
      → (pivot (operations_of F) t r c).entry i j ≡ sum_to F.ring m (λ k. F.ring.mul ((pivot (operations_of F) t r c).entry i (n + k))
      (start_row (operations_of F) m n p k j))
  kept_combines p t r c hr h i j hi = by_test (eqb i r)
    where
      pivot_inverse : A
      pivot_inverse = F.order.inv (t.entry r c)

      S : ℕ → A
      S = λ k. start_row (operations_of F) m n p k j

      sum_of_multiples : (l : ℕ) → sum_to F.ring l (λ k. F.ring.mul (F.ring.mul (t.entry r (n + k)) pivot_inverse) (S k))
          ≡ F.ring.mul (sum_to F.ring l (λ k. F.ring.mul (t.entry r (n + k)) (S k))) pivot_inverse
      sum_of_multiples l = sum_same F.ring l (λ k. F.ring.mul (F.ring.mul (t.entry r (n + k)) pivot_inverse) (S k))
          (λ k. F.ring.mul (F.ring.mul (t.entry r (n + k)) (S k)) pivot_inverse)
          (λ k _. ring F.ring (t.entry r (n + k) ∷ pivot_inverse ∷ S k ∷ []) (times (times (v 0) (v 1)) (v 2)) (times (times (v 0) (v 2)) (v 1)) refl)
          ∙ sum_times F.ring l (λ k. F.ring.mul (t.entry r (n + k)) (S k)) pivot_inverse

      sum_of_differences : (l : ℕ) (q : A) → sum_to F.ring l (λ k. F.ring.mul
          (F.ring.add (t.entry i (n + k)) (F.ring.neg (F.ring.mul (t.entry r (n + k)) q))) (S k))
          ≡ F.ring.add (sum_to F.ring l (λ k. F.ring.mul (t.entry i (n + k)) (S k)))
          (F.ring.neg (F.ring.mul (sum_to F.ring l (λ k. F.ring.mul (t.entry r (n + k)) (S k))) q))
      sum_of_differences zero q = ring F.ring (q ∷ []) nil (plus nil (minus (times nil (v 0)))) refl
      sum_of_differences (suc l) q = ap (F.ring.add (F.ring.mul
          (F.ring.add (t.entry i (n + l)) (F.ring.neg (F.ring.mul (t.entry r (n + l)) q))) (S l))) (sum_of_differences l q)
          ∙ ring F.ring (t.entry i (n + l) ∷ t.entry r (n + l) ∷ S l ∷ q ∷ sum_to F.ring l (λ k. F.ring.mul (t.entry i (n + k)) (S k))
          ∷ sum_to F.ring l (λ k. F.ring.mul (t.entry r (n + k)) (S k)) ∷ [])
          (plus (times (plus (v 0) (minus (times (v 1) (v 3)))) (v 2)) (plus (v 4) (minus (times (v 5) (v 3)))))
          (plus (plus (times (v 0) (v 2)) (v 4)) (minus (times (plus (times (v 1) (v 2)) (v 5)) (v 3)))) refl

      by_test : (b : Bool) → cond b (F.ring.mul (t.entry r j) (F.order.inv (t.entry r c)))
          (F.ring.add (t.entry i j) (F.ring.neg (F.ring.mul (t.entry r j) (F.ring.mul (t.entry i c) (F.order.inv (t.entry r c))))))
          ≡ sum_to F.ring m (λ k. F.ring.mul (cond b (F.ring.mul (t.entry r (n + k)) (F.order.inv (t.entry r c)))
          (F.ring.add (t.entry i (n + k)) (F.ring.neg (F.ring.mul (t.entry r (n + k))
          (F.ring.mul (t.entry i c) (F.order.inv (t.entry r c))))))) (start_row (operations_of F) m n p k j))
      by_test true = ap (λ x. F.ring.mul x pivot_inverse) (h r j (omega arith)) ∙ sym (sum_of_multiples m)
      by_test false = ap₂ (λ x y. F.ring.add x (F.ring.neg (F.ring.mul y (F.ring.mul (t.entry i c) pivot_inverse)))) (h i j hi)
          (h r j (omega arith)) ∙ sym (sum_of_differences m (F.ring.mul (t.entry i c) pivot_inverse))

  kept_spans : (p : FeasibilityProblem A) (t : SimplexTable A) (r c : ℕ) → r < m
      → F.ring.mul (t.entry r c) (F.order.inv (t.entry r c)) ≡ F.ring.unit → HasInvariants (operations_of F) m n p t → (k j : ℕ) → k < m
      → start_row (operations_of F) m n p k j ≡ sum_to F.ring m (λ i. F.ring.mul
      (start_row (operations_of F) m n p k ((pivot (operations_of F) t r c).basis i)) ((pivot (operations_of F) t r c).entry i j))
  kept_spans p t r c hr inverse h k j hk =
      pivot_sum F m n t r c (λ i. start_row (operations_of F) m n p k (t.basis i)) (λ j. start_row (operations_of F) m n p k j) hr inverse
      (λ j. h.spans k j hk) j
      ∙ sum_same F.ring m (λ i. F.ring.mul (cond (eqb i r) (start_row (operations_of F) m n p k c)
      (start_row (operations_of F) m n p k (t.basis i))) ((pivot (operations_of F) t r c).entry i j))
      (λ i. F.ring.mul (start_row (operations_of F) m n p k ((pivot (operations_of F) t r c).basis i)) ((pivot (operations_of F) t r c).entry i j))
      (λ i l. ap (λ x. F.ring.mul x ((pivot (operations_of F) t r c).entry i j)) (by_test (eqb i r) i))
    where
      by_test : (b : Bool) (i : ℕ) → cond b (start_row (operations_of F) m n p k c) (start_row (operations_of F) m n p k (t.basis i))
          ≡ start_row (operations_of F) m n p k (cond b c (t.basis i))
      by_test true i = refl
      by_test false i = refl

  kept_costs : (p : FeasibilityProblem A) (t : SimplexTable A) (r c : ℕ) → r < m → c < n
      → F.ring.mul (t.entry r c) (F.order.inv (t.entry r c)) ≡ F.ring.unit → HasInvariants (operations_of F) m n p t → (j : ℕ)
      → (pivot (operations_of F) t r c).entry m j ≡ sum_to F.ring m (λ i. F.ring.mul
      (cost_of (operations_of F) m n ((pivot (operations_of F) t r c).basis i)) ((pivot (operations_of F) t r c).entry i j))
  kept_costs p t r c hr hc inverse h j =
      other_row t r c m j (λ e. omega arith)
      ∙ ap₂ (λ x y. F.ring.add x (F.ring.neg y)) old_cost_sum (ring F.ring (t.entry r j ∷ t.entry m c ∷ F.order.inv (t.entry r c) ∷ [])
      (times (v 0) (times (v 1) (v 2))) (times (v 1) (times (v 0) (v 2))) refl
      ∙ ap (F.ring.mul (t.entry m c)) (sym (pivot_row t r c j)))
      ∙ ring F.ring (sum_to F.ring m cost_terms ∷ F.ring.mul (t.entry m c) (new_column r) ∷ cost_terms r ∷ [])
      (plus (plus (v 0) (plus (v 1) (minus (v 2)))) (minus (v 1))) (plus (v 0) (plus nil (minus (v 2)))) refl
      ∙ sym new_cost_sum
    where
      new_column : ℕ → A
      new_column = λ i. (pivot (operations_of F) t r c).entry i j

      cost_terms : ℕ → A
      cost_terms = λ i. F.ring.mul (cost_of (operations_of F) m n (t.basis i)) (new_column i)

      one_of : (b : Bool) (i : ℕ) (x : A) → (b ≡ true → i ≡ r)
          → F.ring.mul (cond b x (cost_of (operations_of F) m n (t.basis i))) (new_column i)
          ≡ cond b (F.ring.mul x (new_column r)) (cost_terms i)
      one_of true i x e = ap (λ k. F.ring.mul x (new_column k)) (e refl)
      one_of false i x e = refl

      none_of : (b : Bool) (i : ℕ) → F.ring.mul (cost_of (operations_of F) m n (cond b c (t.basis i))) (new_column i) ≡ cond b F.ring.null (cost_terms i)
      none_of true i = ap (λ b. F.ring.mul (cond b F.ring.null (F.ring.neg F.ring.unit)) (new_column i)) (lt-ltb c n hc)
          ∙ F.ring.mul_comm F.ring.null (new_column i) ∙ mul-null F.ring (new_column i)
      none_of false i = refl

      old_cost_sum : t.entry m j ≡ F.ring.add (sum_to F.ring m cost_terms) (F.ring.add (F.ring.mul (t.entry m c) (new_column r)) (F.ring.neg (cost_terms r)))
      old_cost_sum = pivot_sum F m n t r c (λ i. cost_of (operations_of F) m n (t.basis i)) (t.entry m) hr inverse h.costs j
          ∙ sum_same F.ring m (λ i. F.ring.mul (cond (eqb i r) (t.entry m c) (cost_of (operations_of F) m n (t.basis i))) (new_column i))
          (λ i. cond (eqb i r) (F.ring.mul (t.entry m c) (new_column r)) (cost_terms i))
          (λ i l. one_of (eqb i r) i (t.entry m c) (eqb-true i r))
          ∙ sum_changed F.ring m cost_terms r (F.ring.mul (t.entry m c) (new_column r)) hr

      new_cost_sum : sum_to F.ring m (λ i. F.ring.mul (cost_of (operations_of F) m n ((pivot (operations_of F) t r c).basis i))
          (new_column i)) ≡ F.ring.add (sum_to F.ring m cost_terms) (F.ring.add F.ring.null (F.ring.neg (cost_terms r)))
      new_cost_sum = sum_same F.ring m (λ i. F.ring.mul (cost_of (operations_of F) m n ((pivot (operations_of F) t r c).basis i))
          (new_column i)) (λ i. cond (eqb i r) F.ring.null (cost_terms i)) (λ i l. none_of (eqb i r) i)
          ∙ sum_changed F.ring m cost_terms r F.ring.null hr

  -- right sides: a row with an entry of at most 0, and one whose ratio is no less
  kept_low : (b r t u : A) → IsAtLeastZero F b → IsAtLeastZero F r → IsAtLeastZero F u → IsAtLeastZero F (F.ring.neg t)
      → IsAtLeastZero F (F.ring.add b (F.ring.neg (F.ring.mul r (F.ring.mul t u))))
  kept_low b r t u hb hr hu ht = subst (IsAtLeastZero F) (ring F.ring (b ∷ r ∷ t ∷ u ∷ [])
      (plus (v 0) (times (v 1) (times (minus (v 2)) (v 3)))) (plus (v 0) (minus (times (v 1) (times (v 2) (v 3))))) refl)
      (F.order.add-least b (F.ring.mul r (F.ring.mul (F.ring.neg t) u)) hb
      (F.order.mul-least r (F.ring.mul (F.ring.neg t) u) hr (F.order.mul-least (F.ring.neg t) u ht hu)))

  kept_high : (b r t u w : A) → IsAtLeastZero F t → F.ring.mul t w ≡ F.ring.unit
      → IsAtLeastZero F (F.ring.add (F.ring.mul b w) (F.ring.neg (F.ring.mul r u)))
      → IsAtLeastZero F (F.ring.add b (F.ring.neg (F.ring.mul r (F.ring.mul t u))))
  kept_high b r t u w ht e h = subst (IsAtLeastZero F)
      (ring F.ring (b ∷ r ∷ t ∷ u ∷ w ∷ []) (times (v 2) (plus (times (v 0) (v 4)) (minus (times (v 1) (v 3)))))
      (plus (times (v 0) (times (v 2) (v 4))) (minus (times (v 1) (times (v 2) (v 3))))) refl
      ∙ ap (λ x. F.ring.add (F.ring.mul b x) (F.ring.neg (F.ring.mul r (F.ring.mul t u)))) e
      ∙ ring F.ring (b ∷ r ∷ t ∷ u ∷ []) (plus (times (v 0) one) (minus (times (v 1) (times (v 2) (v 3)))))
      (plus (v 0) (minus (times (v 1) (times (v 2) (v 3))))) refl)
      (F.order.mul-least t (F.ring.add (F.ring.mul b w) (F.ring.neg (F.ring.mul r u))) ht h)

  kept_rights : (p : FeasibilityProblem A) (t : SimplexTable A) (r c : ℕ) → HasInvariants (operations_of F) m n p t
      → MayEnter (operations_of F) m n t r c → (i : ℕ) → i < m → IsAtLeastZero F ((pivot (operations_of F) t r c).entry i (n + m))
  kept_rights p t r c h l i hi = by_cases (cases_eq i r) (cases_Bool (F.order.is_least (F.ring.neg (t.entry i c))))
    where
      inverse_at_least_zero : IsAtLeastZero F (F.order.inv (t.entry r c))
      inverse_at_least_zero = inv-least F (t.entry r c) l.above

      by_cases : (i ≡ r) ⊎ (i ≡ r → ⊥) → (IsAtLeastZero F (F.ring.neg (t.entry i c))) ⊎ (IsAboveZero F (t.entry i c))
          → IsAtLeastZero F ((pivot (operations_of F) t r c).entry i (n + m))
      by_cases (inl e) q = subst (λ (k : ℕ). IsAtLeastZero F ((pivot (operations_of F) t r c).entry k (n + m))) (sym e)
          (subst (IsAtLeastZero F) (sym (pivot_row t r c (n + m))) (F.order.mul-least (t.entry r (n + m)) (F.order.inv (t.entry r c))
          (h.rights r l.row) inverse_at_least_zero))
      by_cases (inr e) (inl q) = subst (IsAtLeastZero F) (sym (other_row t r c i (n + m) e))
          (kept_low (t.entry i (n + m)) (t.entry r (n + m)) (t.entry i c) (F.order.inv (t.entry r c)) (h.rights i hi)
          (h.rights r l.row) inverse_at_least_zero q)
      by_cases (inr e) (inr q) = subst (IsAtLeastZero F) (sym (other_row t r c i (n + m) e))
          (kept_high (t.entry i (n + m)) (t.entry r (n + m)) (t.entry i c) (F.order.inv (t.entry r c)) (F.order.inv (t.entry i c))
          (above-least F (t.entry i c) q) (inv-above F (t.entry i c) q) (l.least i hi q))

  kept_units : (p : FeasibilityProblem A) (t : SimplexTable A) (r c : ℕ) → r < m
      → F.ring.mul (t.entry r c) (F.order.inv (t.entry r c)) ≡ F.ring.unit → HasInvariants (operations_of F) m n p t → (i k : ℕ) → i < m
      → k < m
      → (pivot (operations_of F) t r c).entry i ((pivot (operations_of F) t r c).basis k) ≡ cond (eqb i k) F.ring.unit F.ring.null
  kept_units p t r c hr inverse h i k hi hk = by_cases (cases_eq k r) (cases_eq i r)
    where
      new_table : SimplexTable A
      new_table = pivot (operations_of F) t r c

      is_null : (k ≡ r → ⊥) → t.entry r (t.basis k) ≡ F.ring.null
      is_null d = h.units r k hr hk ∙ ap (λ b. cond b F.ring.unit F.ring.null) (ne_eqb r k (λ e. d (sym e)))

      by_cases : (k ≡ r) ⊎ (k ≡ r → ⊥) → (i ≡ r) ⊎ (i ≡ r → ⊥) → new_table.entry i (new_table.basis k) ≡ cond (eqb i k) F.ring.unit F.ring.null
      by_cases (inl d) (inl e) = ap₂ (λ x y. new_table.entry x (new_table.basis y)) e d ∙ ap (new_table.entry r) (new_basis t r c) ∙ pivot_row t r c c ∙ inverse
          ∙ ap (λ b. cond b F.ring.unit F.ring.null) (sym (eq-eqb i k (e ∙ sym d)))
      by_cases (inl d) (inr e) = ap (λ y. new_table.entry i (new_table.basis y)) d ∙ ap (new_table.entry i) (new_basis t r c) ∙ other_row t r c i c e
          ∙ ring F.ring (t.entry i c ∷ t.entry r c ∷ F.order.inv (t.entry r c) ∷ []) (plus (v 0) (minus (times (v 1) (times (v 0) (v 2)))))
          (plus (v 0) (minus (times (v 0) (times (v 1) (v 2))))) refl
          ∙ ap (λ x. F.ring.add (t.entry i c) (F.ring.neg (F.ring.mul (t.entry i c) x))) inverse
          ∙ ring F.ring (t.entry i c ∷ []) (plus (v 0) (minus (times (v 0) one))) nil refl
          ∙ ap (λ b. cond b F.ring.unit F.ring.null) (sym (ne_eqb i k (λ q. e (q ∙ d))))
      by_cases (inr d) (inl e) = ap (new_table.entry i) (old_basis t r c k d) ∙ ap (λ x. new_table.entry x (t.basis k)) e ∙ pivot_row t r c (t.basis k)
          ∙ ap (λ x. F.ring.mul x (F.order.inv (t.entry r c))) (is_null d)
          ∙ ring F.ring (F.order.inv (t.entry r c) ∷ []) (times nil (v 0)) nil refl
          ∙ ap (λ b. cond b F.ring.unit F.ring.null) (sym (ne_eqb i k (λ q. d (sym q ∙ e))))
      by_cases (inr d) (inr e) = ap (new_table.entry i) (old_basis t r c k d) ∙ other_row t r c i (t.basis k) e
          ∙ ap₂ (λ x y. F.ring.add x (F.ring.neg (F.ring.mul y (F.ring.mul (t.entry i c) (F.order.inv (t.entry r c)))))) (h.units i k hi hk) (is_null d)
          ∙ ring F.ring (cond (eqb i k) F.ring.unit F.ring.null ∷ F.ring.mul (t.entry i c) (F.order.inv (t.entry r c)) ∷ [])
          (plus (v 0) (minus (times nil (v 1)))) (v 0) refl

  pub pivot_keeps_invariants : (p : FeasibilityProblem A) (t : SimplexTable A) (r c : ℕ) → HasInvariants (operations_of F) m n p t
      → MayEnter (operations_of F) m n t r c → HasInvariants (operations_of F) m n p (pivot (operations_of F) t r c)
  pivot_keeps_invariants p t r c h l = record {
    combines = kept_combines p t r c l.row h.combines;
    spans = kept_spans p t r c l.row inverse h;
    rights = kept_rights p t r c h l;
    costs = kept_costs p t r c l.row l.column inverse h;
    units = kept_units p t r c l.row inverse h;
    own = λ k hk. by_cases k (cases_eq k r) hk;
  }
    where
      inverse : F.ring.mul (t.entry r c) (F.order.inv (t.entry r c)) ≡ F.ring.unit
      inverse = inv-above F (t.entry r c) l.above

      by_cases : (k : ℕ) → (k ≡ r) ⊎ (k ≡ r → ⊥) → k < m → ((pivot (operations_of F) t r c).basis k < n) ⊎ ((pivot (operations_of F) t r c).basis k ≡ n + k)
      by_cases k (inl q) hk = inl (subst (λ (b : ℕ). b < n) (sym (ap (pivot (operations_of F) t r c).basis q ∙ new_basis t r c)) l.column)
      by_cases k (inr q) hk = subst (λ (b : ℕ). (b < n) ⊎ (b ≡ n + k)) (sym (old_basis t r c k q)) (h.own k hk)
