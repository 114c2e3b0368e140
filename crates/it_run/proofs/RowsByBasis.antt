-- A row of one table of a run by the rows of another, and what follows for its right sides.
use Rattle.std.proofs.Common.{◌≡◌, ℕ, ◌+◌, ◌<◌, ◌≤◌, cond, eqb, sym, ap, ap₂, ◌∙◌, arith}
use Rattle.it_rational.specs.OrderedFields.{OrderedField}
use Rattle.it_tableau.specs.FieldOperations.{operations_of, sum_to}
use Rattle.it_tableau.specs.SimplexTables.{SimplexTable, FeasibilityProblem, start_row}
use Rattle.it_tableau.specs.Invariants.{cost_of, HasInvariants}
use Rattle.it_tableau.proofs.Sums.{sum_same, sum_times, sum_times_left, sum_swap, sum_unit, eqb_comm}

module _ {A : Type 0} (F : OrderedField A) (m n : ℕ) where
  -- the cost row's entry at a basic column is its cost
  pub basic_cost : (p : FeasibilityProblem A) (t : SimplexTable A) → HasInvariants (operations_of F) m n p t → (k : ℕ) → k < m
      → t.entry m (t.basis k) ≡ cost_of (operations_of F) m n (t.basis k)
  basic_cost p t h k hk = h.costs (t.basis k)
      ∙ sum_same F.ring m (λ i. F.ring.mul (cost_of (operations_of F) m n (t.basis i)) (t.entry i (t.basis k)))
      (λ i. F.ring.mul (cost_of (operations_of F) m n (t.basis i)) (cond (eqb i k) F.ring.unit F.ring.null))
      (λ i l. ap (F.ring.mul (cost_of (operations_of F) m n (t.basis i))) (h.units i k l hk))
      ∙ sum_unit F.ring m (λ i. cost_of (operations_of F) m n (t.basis i)) k hk

  -- a row of one table of a run by the rows of another
  pub row_by_basis : (p : FeasibilityProblem A) (t s : SimplexTable A) → HasInvariants (operations_of F) m n p t
      → HasInvariants (operations_of F) m n p s → (i j : ℕ) → i ≤ m
      → s.entry i j ≡ sum_to F.ring m (λ k. F.ring.mul (s.entry i (t.basis k)) (t.entry k j))
  row_by_basis p t s h g i j hi =
      g.combines i j hi
      ∙ sum_same F.ring m (λ l. F.ring.mul (row_multiplier l) (S l j)) (λ l. sum_to F.ring m
      (λ k. F.ring.mul (F.ring.mul (row_multiplier l) (S l (t.basis k))) (t.entry k j)))
      (λ l q. ap (F.ring.mul (row_multiplier l)) (h.spans l j q)
      ∙ sym (sum_same F.ring m (λ k. F.ring.mul (F.ring.mul (row_multiplier l) (S l (t.basis k))) (t.entry k j))
      (λ k. F.ring.mul (row_multiplier l) (F.ring.mul (S l (t.basis k)) (t.entry k j)))
      (λ k _. F.ring.mul_assoc (row_multiplier l) (S l (t.basis k)) (t.entry k j))
      ∙ sum_times_left F.ring m (λ k. F.ring.mul (S l (t.basis k)) (t.entry k j)) (row_multiplier l)))
      ∙ sum_swap F.ring m m (λ l k. F.ring.mul (F.ring.mul (row_multiplier l) (S l (t.basis k))) (t.entry k j))
      ∙ sum_same F.ring m (λ k. sum_to F.ring m (λ l. F.ring.mul (F.ring.mul (row_multiplier l) (S l (t.basis k))) (t.entry k j)))
      (λ k. F.ring.mul (s.entry i (t.basis k)) (t.entry k j))
      (λ k q. sum_times F.ring m (λ l. F.ring.mul (row_multiplier l) (S l (t.basis k))) (t.entry k j)
      ∙ ap (λ y. F.ring.mul y (t.entry k j)) (sym (g.combines i (t.basis k) hi)))
    where
      row_multiplier : ℕ → A
      row_multiplier l = s.entry i (n + l)

      S : ℕ → ℕ → A
      S l j = start_row (operations_of F) m n p l j

  -- two tables with the same basic columns have the same right side of the cost row
  pub same_right : (p : FeasibilityProblem A) (t s : SimplexTable A) → HasInvariants (operations_of F) m n p t
      → HasInvariants (operations_of F) m n p s → ((i : ℕ) → i < m → t.basis i ≡ s.basis i) → t.entry m (n + m) ≡ s.entry m (n + m)
  same_right p t s h g e = h.costs (n + m)
      ∙ sum_same F.ring m (λ i. F.ring.mul (cost_of (operations_of F) m n (t.basis i)) (t.entry i (n + m)))
      (λ i. F.ring.mul (cost_of (operations_of F) m n (s.basis i)) (s.entry i (n + m)))
      (λ i l. ap₂ (λ b x. F.ring.mul (cost_of (operations_of F) m n b) x) (e i l) (row i l))
      ∙ sym (g.costs (n + m))
    where
      row : (i : ℕ) → i < m → t.entry i (n + m) ≡ s.entry i (n + m)
      row i l = sym (row_by_basis p t s h g i (n + m) (omega arith)
          ∙ sum_same F.ring m (λ k. F.ring.mul (s.entry i (t.basis k)) (t.entry k (n + m)))
          (λ k. F.ring.mul (t.entry k (n + m)) (cond (eqb k i) F.ring.unit F.ring.null))
          (λ k q. ap (λ b. F.ring.mul (s.entry i b) (t.entry k (n + m))) (e k q)
          ∙ ap (λ x. F.ring.mul x (t.entry k (n + m))) (g.units i k l q ∙ ap (λ b. cond b F.ring.unit F.ring.null) (eqb_comm i k))
          ∙ F.ring.mul_comm (cond (eqb k i) F.ring.unit F.ring.null) (t.entry k (n + m)))
          ∙ sum_unit F.ring m (λ k. t.entry k (n + m)) i l)
