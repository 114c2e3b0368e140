-- A weight is the right side of its column's row, 0 where there is none.
use Rattle.std.proofs.Common.{◌≡◌, ◌≢◌, ℕ, ◌+◌, ◌<◌, cond, eqb, sym, ap, ◌∙◌, ◌⊎◌, inl, inr}
use Rattle.std.proofs.lemmas.Bool.{eq-eqb, ne_eqb, cases_eq}
use Rattle.it_rational.specs.OrderedFields.{OrderedField}
use Rattle.it_tableau.specs.FieldOperations.{operations_of}
use Rattle.it_tableau.specs.SimplexTables.{SimplexTable, FeasibilityProblem}
use Rattle.it_tableau.specs.Invariants.{HasInvariants}
use Rattle.it_run.specs.Readings.{weight}
use Rattle.it_tableau.proofs.Sums.{sum_same, sum_null, sum_one}
use Rattle.it_tableau.proofs.BasicColumns.{basic_columns_differ}

module _ {A : Type 0} (F : OrderedField A) (m n : ℕ) where
  pub weight_found : (p : FeasibilityProblem A) (t : SimplexTable A) → HasInvariants (operations_of F) m n p t → (i j : ℕ) → i < m
      → t.basis i ≡ j → weight (operations_of F) m n t j ≡ t.entry i (n + m)
  weight_found p t h i j l e =
      sum_same F.ring m (λ k. cond (eqb (t.basis k) j) (t.entry k (n + m)) F.ring.null) (λ k. cond (eqb k i) (t.entry k (n + m)) F.ring.null)
      (λ k q. ap (λ b. cond b (t.entry k (n + m)) F.ring.null) (by_cases k q (cases_eq k i)))
      ∙ sum_one F.ring m (λ k. t.entry k (n + m)) i l
    where
      by_cases : (k : ℕ) → k < m → (k ≡ i) ⊎ (k ≡ i → ⊥) → eqb (t.basis k) j ≡ eqb k i
      by_cases k q (inl x) = eq-eqb (t.basis k) j (ap t.basis x ∙ e) ∙ sym (eq-eqb k i x)
      by_cases k q (inr d) = ne_eqb (t.basis k) j (λ y. d (basic_columns_differ F m n p t h k i q l (y ∙ sym e))) ∙ sym (ne_eqb k i d)

  pub weight_none : (t : SimplexTable A) (j : ℕ) → ((i : ℕ) → i < m → t.basis i ≢ j) → weight (operations_of F) m n t j ≡ F.ring.null
  weight_none t j h = sum_same F.ring m (λ k. cond (eqb (t.basis k) j) (t.entry k (n + m)) F.ring.null) (λ k. F.ring.null)
      (λ k q. ap (λ b. cond b (t.entry k (n + m)) F.ring.null) (ne_eqb (t.basis k) j (h k q)))
      ∙ sum_null F.ring m
