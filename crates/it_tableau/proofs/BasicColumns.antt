-- Basic columns of a table that keeps the invariants, and sums of rows through a pivot.
use Rattle.std.proofs.Common.{◌≡◌, ℕ, zero, suc, ◌<◌, Bool, true, false, cond, eqb, [], ◌∷◌, refl, sym, ap, ap₂, ◌∙◌, ◌⊎◌, inl, inr}
use Rattle.std.proofs.lemmas.Bool.{eq-eqb, ne_eqb, cases_eq}
use Rattle.it_number.proofs.Ring.{ring, v, plus, times, minus, nil, one}
use Rattle.it_rational.specs.OrderedFields.{OrderedField}
use Rattle.it_tableau.specs.FieldOperations.{operations_of, sum_to, difference}
use Rattle.it_tableau.specs.SimplexTables.{SimplexTable, FeasibilityProblem, pivot}
use Rattle.it_tableau.specs.Invariants.{HasInvariants}
use Rattle.it_tableau.proofs.Sums.{sum_same, sum_changed}

module _ {A : Type 0} (F : OrderedField A) (m n : ℕ) where
  -- no two rows have one basic column
  pub basic_columns_differ : (p : FeasibilityProblem A) (t : SimplexTable A) → HasInvariants (operations_of F) m n p t → (i k : ℕ) → i < m
      → k < m → t.basis i ≡ t.basis k → i ≡ k
  basic_columns_differ p t h i k hi hk e = by_cases (cases_eq i k)
    where
      by_cases : (i ≡ k) ⊎ (i ≡ k → ⊥) → i ≡ k
      by_cases (inl d) = d
      by_cases (inr d) = absurd (F.order.apart
          (ap (λ b. cond b F.ring.unit F.ring.null) (sym (eq-eqb i i refl)) ∙ sym (h.units i i hi hi) ∙ ap (t.entry i) e ∙ h.units i k hi hk
          ∙ ap (λ b. cond b F.ring.unit F.ring.null) (ne_eqb i k d)))

  -- a sum of the rows through a pivot
  pub pivot_sum : (t : SimplexTable A) (r c : ℕ) (f S : ℕ → A) → r < m → F.ring.mul (t.entry r c) (F.order.inv (t.entry r c)) ≡ F.ring.unit
      → ((j : ℕ) → S j ≡ sum_to F.ring m (λ i. F.ring.mul (f i) (t.entry i j)))
      → (j : ℕ) → S j ≡ sum_to F.ring m (λ i. F.ring.mul (cond (eqb i r) (S c) (f i)) ((pivot (operations_of F) t r c).entry i j))
  pivot_sum t r c f S h inverse s j =
      let u : A = F.order.inv (t.entry r c) in
      let X : ℕ → A = λ i. F.ring.mul (f i) (difference F.ring (t.entry i j) (F.ring.mul (t.entry r j) (F.ring.mul (t.entry i c) u))) in
      let x : A = F.ring.mul (S c) (F.ring.mul (t.entry r j) u) in
      let whole : sum_to F.ring m X ≡ F.ring.add (S j) (F.ring.neg (F.ring.mul (S c) (F.ring.mul (t.entry r j) u))) =
      sum_of_differences m ∙ ap₂ (λ a b. F.ring.add a (F.ring.neg (F.ring.mul b (F.ring.mul (t.entry r j) u)))) (sym (s j)) (sym (s c)) in
      let none : X r ≡ F.ring.null =
      ring F.ring (f r ∷ t.entry r j ∷ t.entry r c ∷ u ∷ []) (times (v 0) (plus (v 1) (minus (times (v 1) (times (v 2) (v 3))))))
      (plus (times (v 0) (v 1)) (minus (times (times (v 0) (v 1)) (times (v 2) (v 3))))) refl
      ∙ ap (λ y. F.ring.add (F.ring.mul (f r) (t.entry r j)) (F.ring.neg (F.ring.mul (F.ring.mul (f r) (t.entry r j)) y))) inverse
      ∙ ring F.ring (f r ∷ t.entry r j ∷ []) (plus (times (v 0) (v 1)) (minus (times (times (v 0) (v 1)) one))) nil refl in
      sym (sum_same F.ring m (λ i. F.ring.mul (cond (eqb i r) (S c) (f i)) ((pivot (operations_of F) t r c).entry i j))
      (λ i. cond (eqb i r) x (X i)) (λ i l. by_test (eqb i r) i)
      ∙ sum_changed F.ring m X r x h
      ∙ ap₂ (λ a b. F.ring.add a (F.ring.add x (F.ring.neg b))) whole none
      ∙ ring F.ring (S j ∷ x ∷ []) (plus (plus (v 0) (minus (v 1))) (plus (v 1) (minus nil))) (v 0) refl)
    where
      by_test : (b : Bool) (i : ℕ) → F.ring.mul (cond b (S c) (f i)) (cond b (F.ring.mul (t.entry r j) (F.order.inv (t.entry r c)))
          (F.ring.add (t.entry i j) (F.ring.neg (F.ring.mul (t.entry r j) (F.ring.mul (t.entry i c) (F.order.inv (t.entry r c)))))))
          ≡ cond b (F.ring.mul (S c) (F.ring.mul (t.entry r j) (F.order.inv (t.entry r c))))
          (F.ring.mul (f i) (F.ring.add (t.entry i j) (F.ring.neg (F.ring.mul (t.entry r j)
          (F.ring.mul (t.entry i c) (F.order.inv (t.entry r c)))))))
      by_test true i = refl
      by_test false i = refl

      sum_of_differences : (k : ℕ) → sum_to F.ring k (λ i. F.ring.mul (f i)
          (F.ring.add (t.entry i j) (F.ring.neg (F.ring.mul (t.entry r j) (F.ring.mul (t.entry i c) (F.order.inv (t.entry r c)))))))
          ≡ F.ring.add (sum_to F.ring k (λ i. F.ring.mul (f i) (t.entry i j)))
          (F.ring.neg (F.ring.mul (sum_to F.ring k (λ i. F.ring.mul (f i) (t.entry i c)))
          (F.ring.mul (t.entry r j) (F.order.inv (t.entry r c)))))
      sum_of_differences zero = ring F.ring (t.entry r j ∷ F.order.inv (t.entry r c) ∷ []) nil (plus nil (minus (times nil (times (v 0) (v 1))))) refl
      sum_of_differences (suc k) = ap (F.ring.add (F.ring.mul (f k) (F.ring.add (t.entry k j)
          (F.ring.neg (F.ring.mul (t.entry r j) (F.ring.mul (t.entry k c) (F.order.inv (t.entry r c)))))))) (sum_of_differences k)
          ∙ ring F.ring (f k ∷ t.entry k j ∷ t.entry r j ∷ t.entry k c ∷ F.order.inv (t.entry r c)
          ∷ sum_to F.ring k (λ i. F.ring.mul (f i) (t.entry i j)) ∷ sum_to F.ring k (λ i. F.ring.mul (f i) (t.entry i c)) ∷ [])
          (plus (times (v 0) (plus (v 1) (minus (times (v 2) (times (v 3) (v 4)))))) (plus (v 5) (minus (times (v 6) (times (v 2) (v 4))))))
          (plus (plus (times (v 0) (v 1)) (v 5)) (minus (times (plus (times (v 0) (v 3)) (v 6)) (times (v 2) (v 4))))) refl
