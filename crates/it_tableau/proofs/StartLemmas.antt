-- The start has the invariants.
use Rattle.std.proofs.Common.{◌≡◌, ℕ, ◌+◌, ◌<◌, ◌≤◌, Bool, true, false, cond, eqb, [], ◌∷◌, refl, sym, ap, ap₂, subst, ◌∙◌, ◌⊎◌, inl, inr, arith}
use Rattle.std.proofs.lemmas.Bool.{eq-eqb, ne_eqb, cases_eq, lt-ltb, le-ltb}
use Rattle.it_number.proofs.Ring.{ring, v, times, minus, one}
use Rattle.it_rational.proofs.Ordered.{below-neg}
use Rattle.it_rational.specs.OrderedFields.{OrderedField, IsAtLeastZero}
use Rattle.it_tableau.specs.FieldOperations.{operations_of, sum_to}
use Rattle.it_tableau.specs.SimplexTables.{FeasibilityProblem, sign, start_row, start}
use Rattle.it_tableau.specs.Invariants.{cost_of, HasInvariants}
use Rattle.it_tableau.proofs.Sums.{sum_same, sum_times_left, sum_one, sum_unit, eqb_comm}

eqb_shift : (n i k : ℕ) → eqb (n + i) (n + k) ≡ eqb i k
eqb_shift n i k = by_cases (cases_eq i k)
  where
    by_cases : (i ≡ k) ⊎ (i ≡ k → ⊥) → eqb (n + i) (n + k) ≡ eqb i k
    by_cases (inl e) = eq-eqb (n + i) (n + k) (ap (λ x. n + x) e) ∙ sym (eq-eqb i k e)
    by_cases (inr d) = ne_eqb (n + i) (n + k) (λ e. d (omega arith)) ∙ sym (ne_eqb i k d)

module _ {A : Type 0} (F : OrderedField A) (m n : ℕ) where
  pub row_column : (p : FeasibilityProblem A) (k j : ℕ) → j < n → start_row (operations_of F) m n p k j ≡ F.ring.mul (sign (operations_of F) p k) (p.column j k)
  row_column p k j h = ap (λ b. cond b (F.ring.mul (sign (operations_of F) p k) (p.column j k))
      (cond (eqb j (n + m)) (F.ring.mul (sign (operations_of F) p k) (p.target k)) (cond (eqb j (n + k)) F.ring.unit F.ring.null)))
      (lt-ltb j n h)

  pub row_right : (p : FeasibilityProblem A) (k : ℕ) → start_row (operations_of F) m n p k (n + m) ≡ F.ring.mul (sign (operations_of F) p k) (p.target k)
  row_right p k = ap₂ (λ b c. cond b (F.ring.mul (sign (operations_of F) p k) (p.column (n + m) k))
      (cond c (F.ring.mul (sign (operations_of F) p k) (p.target k)) (cond (eqb (n + m) (n + k)) F.ring.unit F.ring.null)))
      (le-ltb (n + m) n (omega arith)) (eq-eqb (n + m) (n + m) refl)

  pub row_artificial : (p : FeasibilityProblem A) (k i : ℕ) → i < m → start_row (operations_of F) m n p k (n + i) ≡ cond (eqb i k) F.ring.unit F.ring.null
  row_artificial p k i h =
      ap₂ (λ b c. cond b (F.ring.mul (sign (operations_of F) p k) (p.column (n + i) k))
      (cond c (F.ring.mul (sign (operations_of F) p k) (p.target k)) (cond (eqb (n + i) (n + k)) F.ring.unit F.ring.null)))
      (le-ltb (n + i) n (omega arith)) (ne_eqb (n + i) (n + m) (λ e. omega arith))
      ∙ ap (λ b. cond b F.ring.unit F.ring.null) (eqb_shift n i k)

  pub start_entry : (p : FeasibilityProblem A) (i j : ℕ) → i < m → (start (operations_of F) m n p).entry i j ≡ start_row (operations_of F) m n p i j
  start_entry p i j h = ap (λ b. cond b (start_row (operations_of F) m n p i j)
      (cond (eqb i m) (F.ring.neg (sum_to F.ring m (λ k. start_row (operations_of F) m n p k j))) F.ring.null)) (lt-ltb i m h)

  pub start_cost : (p : FeasibilityProblem A) (j : ℕ) → (start (operations_of F) m n p).entry m j
      ≡ F.ring.neg (sum_to F.ring m (λ k. start_row (operations_of F) m n p k j))
  start_cost p j = ap₂ (λ b d. cond b (start_row (operations_of F) m n p m j)
      (cond d (F.ring.neg (sum_to F.ring m (λ k. start_row (operations_of F) m n p k j))) F.ring.null)) (le-ltb m m (omega arith))
      (eq-eqb m m refl)

  pub start_basis : (p : FeasibilityProblem A) (i : ℕ) → i < m → (start (operations_of F) m n p).basis i ≡ n + i
  start_basis p i h = ap (λ b. cond b (n + i) 0) (lt-ltb i m h)

  artificial_cost : (p : FeasibilityProblem A) (k : ℕ) → k < m → (start (operations_of F) m n p).entry m (n + k) ≡ F.ring.neg F.ring.unit
  artificial_cost p k h = start_cost p (n + k) ∙ ap F.ring.neg
      (sum_same F.ring m (λ i. start_row (operations_of F) m n p i (n + k)) (λ i. cond (eqb i k) F.ring.unit F.ring.null)
      (λ i l. row_artificial p i k h ∙ ap (λ b. cond b F.ring.unit F.ring.null) (eqb_comm k i))
      ∙ sum_one F.ring m (λ i. F.ring.unit) k h)

  -- the sum of the negated rows
  cost_is_weighted_sum : (p : FeasibilityProblem A) (j : ℕ) (f : ℕ → A) → ((k : ℕ) → k < m → f k ≡ F.ring.neg F.ring.unit)
      → (start (operations_of F) m n p).entry m j ≡ sum_to F.ring m (λ k. F.ring.mul (f k) (start_row (operations_of F) m n p k j))
  cost_is_weighted_sum p j f h = start_cost p j
      ∙ ring F.ring (sum_to F.ring m (λ k. start_row (operations_of F) m n p k j) ∷ []) (minus (v 0)) (times (minus one) (v 0)) refl
      ∙ sym (sum_same F.ring m (λ k. F.ring.mul (f k) (start_row (operations_of F) m n p k j))
      (λ k. F.ring.mul (F.ring.neg F.ring.unit) (start_row (operations_of F) m n p k j))
      (λ k l. ap (λ x. F.ring.mul x (start_row (operations_of F) m n p k j)) (h k l))
      ∙ sum_times_left F.ring m (λ k. start_row (operations_of F) m n p k j) (F.ring.neg F.ring.unit))

  -- one row of a sum against a unit
  sum_picks_row : (p : FeasibilityProblem A) (k j : ℕ) (f g : ℕ → A) → k < m
      → ((i : ℕ) → i < m → f i ≡ cond (eqb i k) F.ring.unit F.ring.null) → ((i : ℕ) → i < m → g i ≡ start_row (operations_of F) m n p i j)
      → sum_to F.ring m (λ i. F.ring.mul (f i) (g i)) ≡ start_row (operations_of F) m n p k j
  sum_picks_row p k j f g h hf hg =
      sum_same F.ring m (λ i. F.ring.mul (f i) (g i)) (λ i. F.ring.mul (start_row (operations_of F) m n p i j)
      (cond (eqb i k) F.ring.unit F.ring.null)) (λ i l. ap₂ F.ring.mul (hf i l) (hg i l)
      ∙ F.ring.mul_comm (cond (eqb i k) F.ring.unit F.ring.null) (start_row (operations_of F) m n p i j))
      ∙ sum_unit F.ring m (λ i. start_row (operations_of F) m n p i j) k h

  pub start_has_invariants : (p : FeasibilityProblem A) → HasInvariants (operations_of F) m n p (start (operations_of F) m n p)
  start_has_invariants p = record {
    combines = λ i j h. row_combines_start i j (cases_eq i m) h;
    spans = λ k j h. sym (sum_picks_row p k j (λ i. start_row (operations_of F) m n p k ((start (operations_of F) m n p).basis i))
        (λ i. (start (operations_of F) m n p).entry i j) h
        (λ i l. ap (start_row (operations_of F) m n p k) (start_basis p i l) ∙ row_artificial p k i l) (λ i l. start_entry p i j l));
    rights = λ i h. subst (IsAtLeastZero F) (sym (start_entry p i (n + m) h ∙ row_right p i))
        (signed_at_least_zero (p.target i) (F.order.is_least (p.target i)) refl);
    costs = λ j. cost_is_weighted_sum p j (λ k. cost_of (operations_of F) m n ((start (operations_of F) m n p).basis k))
        (λ k l. ap (cost_of (operations_of F) m n) (start_basis p k l) ∙ ap (λ b. cond b F.ring.null (F.ring.neg F.ring.unit)) (le-ltb (n + k) n (omega arith)))
        ∙ sum_same F.ring m (λ k. F.ring.mul (cost_of (operations_of F) m n ((start (operations_of F) m n p).basis k))
        (start_row (operations_of F) m n p k j)) (λ k. F.ring.mul (cost_of (operations_of F) m n ((start (operations_of F) m n p).basis k))
        ((start (operations_of F) m n p).entry k j))
        (λ k l. ap (F.ring.mul (cost_of (operations_of F) m n ((start (operations_of F) m n p).basis k))) (sym (start_entry p k j l)));
    units = λ i k hi hk. ap ((start (operations_of F) m n p).entry i) (start_basis p k hk) ∙ start_entry p i (n + k) hi
        ∙ row_artificial p i k hk ∙ ap (λ b. cond b F.ring.unit F.ring.null) (eqb_comm k i);
    own = λ k h. inr (start_basis p k h);
  }
    where
      signed_at_least_zero : (x : A) (b : Bool) → F.order.is_least x ≡ b → IsAtLeastZero F (F.ring.mul (cond b F.ring.unit (F.ring.neg F.ring.unit)) x)
      signed_at_least_zero x true e = subst (IsAtLeastZero F) (sym (F.ring.unit-mul x)) e
      signed_at_least_zero x false e = subst (IsAtLeastZero F) (ring F.ring (x ∷ []) (minus (v 0)) (times (minus one) (v 0)) refl) (below-neg F x e)

      row_combines_start : (i j : ℕ) → (i ≡ m) ⊎ (i ≡ m → ⊥) → i ≤ m → (start (operations_of F) m n p).entry i j
          ≡ sum_to F.ring m (λ k. F.ring.mul ((start (operations_of F) m n p).entry i (n + k)) (start_row (operations_of F) m n p k j))
      row_combines_start i j (inl e) h = subst (λ (x : ℕ). (start (operations_of F) m n p).entry x j
          ≡ sum_to F.ring m (λ k. F.ring.mul ((start (operations_of F) m n p).entry x (n + k)) (start_row (operations_of F) m n p k j)))
          (sym e)
          (cost_is_weighted_sum p j (λ k. (start (operations_of F) m n p).entry m (n + k)) (λ k l. artificial_cost p k l))
      row_combines_start i j (inr d) h = let l : i < m = omega arith in start_entry p i j l
          ∙ sym (sum_picks_row p i j (λ k. (start (operations_of F) m n p).entry i (n + k)) (λ k. start_row (operations_of F) m n p k j) l
          (λ k q. start_entry p i (n + k) l ∙ row_artificial p i k q) (λ k q. refl))
