-- Degenerate steps: a table with the rows that moved since an earlier one.
use Rattle.std.proofs.Common.{◌≡◌, ℕ, ◌+◌, ◌<◌, Bool, true, false, cond, eqb, [], ◌∷◌, refl, sym, ap, ◌∙◌}
use Rattle.std.proofs.lemmas.Bool.{eqb-true, true≢false}
use Rattle.it_number.proofs.Ring.{ring, mul-null, v, plus, minus, nil}
use Rattle.it_rational.specs.OrderedFields.{OrderedField}
use Rattle.it_tableau.specs.FieldOperations.{operations_of, difference}
use Rattle.it_tableau.specs.SimplexTables.{SimplexTable, FeasibilityProblem}
use Rattle.it_tableau.specs.Invariants.{HasInvariants}
use Rattle.it_run.specs.Choice.{entering_column, leaving_row, next, IsStuck}
use Rattle.it_run.proofs.RunLemmas.{next_holds}

module _ {A : Type 0} (F : OrderedField A) (m n : ℕ) (p : FeasibilityProblem A) where
  -- only rows with right side 0 have moved between two tables of a run
  pub record IsBehind (b t : SimplexTable A) (moved : ℕ → Bool) : Type 0 where
    pub base : HasInvariants (operations_of F) m n p b
    pub holds : HasInvariants (operations_of F) m n p t
    pub same : (q : ℕ) → q < m → moved q ≡ false → t.basis q ≡ b.basis q
    pub still : (q : ℕ) → q < m → moved q ≡ true → t.entry q (n + m) ≡ F.ring.null
    pub rights : (i : ℕ) → i < m → t.entry i (n + m) ≡ b.entry i (n + m)

  -- no row moves between a table and itself
  pub none_moved : (b : SimplexTable A) → HasInvariants (operations_of F) m n p b → IsBehind b b (λ _. false)
  none_moved b h = record { base = h; holds = h; same = λ q l e. refl; still = λ q l e. absurd (true≢false (sym e)); rights = λ i l. refl }

  module _ (b t : SimplexTable A) (moved : ℕ → Bool) (behind : IsBehind b t moved) (moves : ¬ (IsStuck (operations_of F) m n t)) where
    -- the row that leaves
    abbrev row : ℕ
    row = leaving_row (operations_of F) m n t (entering_column (operations_of F) m n t)

    module _ (degenerate : t.entry row (n + m) ≡ F.ring.null) where
      -- the amount by which a degenerate step lowers a right side
      null_times : (x : A) → F.ring.mul (t.entry row (n + m)) x ≡ F.ring.null
      null_times x = ap (λ y. F.ring.mul y x) degenerate ∙ F.ring.mul_comm F.ring.null x ∙ mul-null F.ring x

      minus_null : (x y : A) → difference F.ring x (F.ring.mul (t.entry row (n + m)) y) ≡ x
      minus_null x y = ap (λ z. difference F.ring x z) (null_times y) ∙ ring F.ring (x ∷ []) (plus (v 0) (minus nil)) (v 0) refl

      rights_stay : (i : ℕ) → i < m → (next (operations_of F) m n t).entry i (n + m) ≡ t.entry i (n + m)
      rights_stay i l = by_test (eqb i row) refl
        where
          by_test : (d : Bool) → eqb i row ≡ d
              → cond d (F.ring.mul (t.entry row (n + m)) (F.order.inv (t.entry row (entering_column (operations_of F) m n t))))
              (difference F.ring (t.entry i (n + m)) (F.ring.mul (t.entry row (n + m))
              (F.ring.mul (t.entry i (entering_column (operations_of F) m n t))
              (F.order.inv (t.entry row (entering_column (operations_of F) m n t)))))) ≡ t.entry i (n + m)
          by_test true e = null_times (F.order.inv (t.entry row (entering_column (operations_of F) m n t))) ∙ sym degenerate
              ∙ ap (λ k. t.entry k (n + m)) (sym (eqb-true i row e))
          by_test false e = minus_null (t.entry i (n + m)) (F.ring.mul (t.entry i (entering_column (operations_of F) m n t))
              (F.order.inv (t.entry row (entering_column (operations_of F) m n t))))

      -- a degenerate step moves the row that leaves
      pub row_moves : IsBehind b (next (operations_of F) m n t) (λ q. cond (eqb q row) true (moved q))
      row_moves = record {
        base = behind.base;
        holds = next_holds F m n p t behind.holds moves;
        same = λ q l e. same_by_test q l (eqb q row) e;
        still = λ q l e. rights_stay q l ∙ still_by_test q l (eqb q row) refl e;
        rights = λ i l. rights_stay i l ∙ behind.rights i l;
      }
        where
          same_by_test : (q : ℕ) → q < m → (d : Bool) → cond d true (moved q) ≡ false → cond d (entering_column (operations_of F) m n t) (t.basis q) ≡ b.basis q
          same_by_test q l true e = absurd (true≢false e)
          same_by_test q l false e = behind.same q l e

          still_by_test : (q : ℕ) → q < m → (d : Bool) → eqb q row ≡ d → cond d true (moved q) ≡ true → t.entry q (n + m) ≡ F.ring.null
          still_by_test q l true f e = ap (λ k. t.entry k (n + m)) (eqb-true q row f) ∙ degenerate
          still_by_test q l false f e = behind.still q l e
