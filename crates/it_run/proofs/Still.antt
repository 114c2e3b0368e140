-- The row that leaves at a degenerate step: of the rows with right side 0 and an entry above 0 the one with the least basic column.
use Rattle.std.proofs.Common.{◌≡◌, ◌⊎◌, inl, inr, ℕ, ◌+◌, ◌<◌, ◌≤◌, cond, [], ◌∷◌, refl, sym, ap, subst, ◌∙◌, arith}
use Rattle.std.proofs.lemmas.Bool.{cases_eq, eq-eqb, ne_eqb}
use Rattle.it_number.proofs.Ring.{ring, mul-null, v, times}
use Rattle.it_rational.specs.OrderedFields.{OrderedField, IsAtLeastZero, IsAboveZero, IsBelowZero}
use Rattle.it_rational.proofs.Ordered.{inv-above, inv-least}
use Rattle.it_tableau.specs.FieldOperations.{operations_of, difference}
use Rattle.it_tableau.specs.SimplexTables.{SimplexTable, FeasibilityProblem, ratio}
use Rattle.it_tableau.specs.Invariants.{HasInvariants}
use Rattle.it_run.specs.Choice.{leaving_row}
use Rattle.it_run.proofs.BlandRule.{Leaves, leaving_is}

module _ {A : Type 0} (F : OrderedField A) (m n : ℕ) (p : FeasibilityProblem A) (t : SimplexTable A) (c r : ℕ)
    (h : HasInvariants (operations_of F) m n p t) where
  -- row r may leave with ratio 0, and no row with right side 0 and an entry above 0 has a lower basic column
  pub record IsFirstStill : Type 0 where
    pub row : r < m
    pub still : t.entry r (n + m) ≡ F.ring.null
    pub above : IsAboveZero F (t.entry r c)
    pub first : (i : ℕ) → i < m → t.entry i (n + m) ≡ F.ring.null → IsAboveZero F (t.entry i c) → t.basis r ≤ t.basis i

  null_ratio : (i : ℕ) → t.entry i (n + m) ≡ F.ring.null → ratio (operations_of F) m n t c i ≡ F.ring.null
  null_ratio i e = ap (λ x. F.ring.mul x (F.order.inv (t.entry i c))) e ∙ F.ring.mul_comm F.ring.null (F.order.inv (t.entry i c))
      ∙ mul-null F.ring (F.order.inv (t.entry i c))

  pub first_still_leaves : IsBelowZero F (t.entry m c) → IsFirstStill → leaving_row (operations_of F) m n t c ≡ r
  first_still_leaves below s = by_cases (cases_eq l r)
    where
      l : ℕ
      l = leaving_row (operations_of F) m n t c

      w : Leaves F m n t c l
      w = leaving_is F m n p t c h below

      x : A
      x = ratio (operations_of F) m n t c l

      ratio_least : IsAtLeastZero F x
      ratio_least = F.order.mul-least (t.entry l (n + m)) (F.order.inv (t.entry l c)) (h.rights l w.row) (inv-least F (t.entry l c) w.above)

      ratio_most : IsAtLeastZero F (F.ring.neg x)
      ratio_most = subst (IsAtLeastZero F) (ap (λ y. difference F.ring y x) (null_ratio r s.still) ∙ F.ring.null-add (F.ring.neg x)) (w.least r s.row s.above)

      ratio_null : x ≡ F.ring.null
      ratio_null = F.order.strict x ratio_least ratio_most

      right_null : t.entry l (n + m) ≡ F.ring.null
      right_null = sym (F.ring.unit-mul (t.entry l (n + m)))
          ∙ ap (λ u. F.ring.mul u (t.entry l (n + m))) (sym (inv-above F (t.entry l c) w.above))
          ∙ ring F.ring (t.entry l c ∷ F.order.inv (t.entry l c) ∷ t.entry l (n + m) ∷ []) (times (times (v 0) (v 1)) (v 2))
          (times (v 0) (times (v 2) (v 1))) refl
          ∙ ap (F.ring.mul (t.entry l c)) ratio_null
          ∙ mul-null F.ring (t.entry l c)

      same_column : t.basis l ≡ t.basis r
      same_column = equal_by_bounds (t.basis l) (t.basis r) (w.first r s.row s.above (null_ratio r s.still ∙ sym ratio_null))
          (s.first l w.row right_null w.above)
        where
          equal_by_bounds : (a b : ℕ) → a ≤ b → b ≤ a → a ≡ b
          equal_by_bounds a b h k = omega (arith, h, k)

      by_cases : (l ≡ r) ⊎ (l ≡ r → ⊥) → l ≡ r
      by_cases (inl e) = e
      by_cases (inr d) = absurd (F.order.apart
          (ap (λ b. cond b F.ring.unit F.ring.null) (sym (eq-eqb l l refl)) ∙ sym (h.units l l w.row w.row) ∙ ap (t.entry l) same_column
          ∙ h.units l r w.row s.row
          ∙ ap (λ b. cond b F.ring.unit F.ring.null) (ne_eqb l r d)))
