-- The rows of a table of a run by those of any other: what brings a row that stayed as it was up to date.
use Rattle.std.proofs.Common.{◌≡◌, ℕ, ◌+◌, ◌<◌, ◌≤◌, Bool, true, false, cond, eqb, [], ◌∷◌, refl, sym, ap, ◌∙◌, arith}
use Rattle.std.proofs.lemmas.Bool.{ne_eqb, true≢false}
use Rattle.it_number.proofs.Ring.{ring, mul-null, v, plus, minus}
use Rattle.it_rational.specs.OrderedFields.{OrderedField}
use Rattle.it_tableau.specs.FieldOperations.{operations_of, sum_to, difference}
use Rattle.it_tableau.specs.SimplexTables.{SimplexTable, FeasibilityProblem, start_row}
use Rattle.it_tableau.specs.Invariants.{HasInvariants}
use Rattle.it_tableau.proofs.Sums.{eqb_comm, sum_same, sum_add, sum_times, sum_times_left, sum_swap, sum_one}

module _ {A : Type 0} (F : OrderedField A) (m n : ℕ) (p : FeasibilityProblem A) (b t : SimplexTable A)
    (hb : HasInvariants (operations_of F) m n p b) (ht : HasInvariants (operations_of F) m n p t) where
  -- a row of one table is the sum of the other's rows, by its own entries at their basic columns
  pub row_by_rows : (i j : ℕ) → i ≤ m → b.entry i j ≡ sum_to F.ring m (λ q. F.ring.mul (b.entry i (t.basis q)) (t.entry q j))
  row_by_rows i j hi =
      hb.combines i j hi
      ∙ sum_same F.ring m (λ k. F.ring.mul (x k) (start_row (operations_of F) m n p k j))
      (λ k. sum_to F.ring m (λ q. F.ring.mul (x k) (F.ring.mul (s k q) (t.entry q j))))
      (λ k l. ap (F.ring.mul (x k)) (ht.spans k j l) ∙ sym (sum_times_left F.ring m (λ q. F.ring.mul (s k q) (t.entry q j)) (x k)))
      ∙ sum_swap F.ring m m (λ k q. F.ring.mul (x k) (F.ring.mul (s k q) (t.entry q j)))
      ∙ sum_same F.ring m (λ q. sum_to F.ring m (λ k. F.ring.mul (x k) (F.ring.mul (s k q) (t.entry q j))))
      (λ q. F.ring.mul (b.entry i (t.basis q)) (t.entry q j))
      (λ q l. sum_same F.ring m (λ k. F.ring.mul (x k) (F.ring.mul (s k q) (t.entry q j)))
      (λ k. F.ring.mul (F.ring.mul (x k) (s k q)) (t.entry q j)) (λ k _. sym (F.ring.mul_assoc (x k) (s k q) (t.entry q j)))
      ∙ sum_times F.ring m (λ k. F.ring.mul (x k) (s k q)) (t.entry q j)
      ∙ ap (λ z. F.ring.mul z (t.entry q j)) (sym (hb.combines i (t.basis q) hi)))
    where
      x : ℕ → A
      x = λ k. b.entry i (n + k)

      s : ℕ → ℕ → A
      s = λ k q. start_row (operations_of F) m n p k (t.basis q)

  module _ (moved : ℕ → Bool) (same : (q : ℕ) → q < m → moved q ≡ false → t.basis q ≡ b.basis q) where
    -- what the rows that moved add to row i at column j
    abbrev pub moved_sum : ℕ → ℕ → A
    moved_sum i j = sum_to F.ring m (λ q. cond (moved q) (F.ring.mul (b.entry i (t.basis q)) (t.entry q j)) F.ring.null)

    -- a row that didn't move is that of the earlier table less this
    pub row_behind : (i j : ℕ) → i < m → moved i ≡ false → t.entry i j ≡ difference F.ring (b.entry i j) (moved_sum i j)
    row_behind i j hi stays =
        ring F.ring (t.entry i j ∷ moved_sum i j ∷ []) (v 0) (plus (plus (v 0) (v 1)) (minus (v 1))) refl
        ∙ ap (λ z. F.ring.add z (F.ring.neg (moved_sum i j))) (sym in_two)
      where
        X : ℕ → A
        X = λ q. F.ring.mul (b.entry i (t.basis q)) (t.entry q j)

        by_move : (q : ℕ) → q < m → (c : Bool) → moved q ≡ c → X q ≡ F.ring.add (cond (eqb q i) (t.entry q j) F.ring.null) (cond c (X q) F.ring.null)
        by_move q l true e =
            sym (F.ring.null-add (X q))
            ∙ ap (λ d. F.ring.add (cond d (t.entry q j) F.ring.null) (X q)) (sym (ne_eqb q i (λ w. true≢false (sym e ∙ ap moved w ∙ stays))))
        by_move q l false e =
            ap (λ z. F.ring.mul z (t.entry q j)) (ap (b.entry i) (same q l e) ∙ hb.units i q hi l ∙ ap (λ d. cond d F.ring.unit F.ring.null) (eqb_comm i q))
            ∙ unit_entry (eqb q i)
            ∙ sym (F.ring.null-add (cond (eqb q i) (t.entry q j) F.ring.null)) ∙ F.ring.add_comm F.ring.null (cond (eqb q i) (t.entry q j) F.ring.null)
          where
            unit_entry : (d : Bool) → F.ring.mul (cond d F.ring.unit F.ring.null) (t.entry q j) ≡ cond d (t.entry q j) F.ring.null
            unit_entry true = F.ring.unit-mul (t.entry q j)
            unit_entry false = F.ring.mul_comm F.ring.null (t.entry q j) ∙ mul-null F.ring (t.entry q j)

        in_two : b.entry i j ≡ F.ring.add (t.entry i j) (moved_sum i j)
        in_two = row_by_rows i j (omega (arith, hi))
            ∙ sum_same F.ring m X (λ q. F.ring.add (cond (eqb q i) (t.entry q j) F.ring.null) (cond (moved q) (X q) F.ring.null))
            (λ q l. by_move q l (moved q) refl)
            ∙ sum_add F.ring m (λ q. cond (eqb q i) (t.entry q j) F.ring.null) (λ q. cond (moved q) (X q) F.ring.null)
            ∙ ap (λ z. F.ring.add z (moved_sum i j)) (sum_one F.ring m (λ q. t.entry q j) i hi)
