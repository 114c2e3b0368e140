-- The choice by whole numbers is that of the run.
use Rattle.std.proofs.Common.{◌≡◌, ℕ, zero, suc, ◌+◌, ◌*◌, ◌<◌, ◌≤◌, Bool, true, false, not, cond, eqb, ltb, ◌&&◌, ℤ, pos, negsuc, ◌+ℤ◌, ◌*ℤ◌, neg_ℤ, Option, Some, None, refl, sym, ap, ap₂, subst, ◌∙◌, arith, mul-pos}
use Rattle.std.proofs.lemmas.Bool.{true≢false, eq-eqb, ne_eqb}
use Rattle.it_number.proofs.Integers.{zring}
use Rattle.it_rational.specs.Rational.{Rational, sign_least, is_at_least_zero, IsRatio}
use Rattle.it_rational.specs.Rational as Q
use Rattle.it_rational.proofs.Names.{plus_names}
use Rattle.it_tableau.specs.Operations.{rationals}
use Rattle.it_tableau.specs.SimplexTables.{SimplexTable, ratio}
use Rattle.it_run.specs.Choice.{is_candidate, precedes, leaving_row_of}
use Rattle.std.specs.Option.{IfSome}
use Rattle.it_engine.specs.Choosing.{is_above_zero, comes_first, best_after_row, best_row_below}
use Rattle.it_whole.proofs.Names.{sign_named, minus_names, quotient_in_row}

-- the best row so far is one of those seen
pub best_within : (entry right : ℕ → ℤ) (basis : ℕ → ℕ) (i m : ℕ) (o : Option ℕ) → o ≡ best_row_below entry right basis i → i ≤ m → IfSome o (λ k. k < m)
best_within entry right basis zero m o e h = subst (λ (o : Option ℕ). IfSome o (λ k. k < m)) (sym e) tt
best_within entry right basis (suc i) m o e h = subst (λ (o : Option ℕ). IfSome o (λ k. k < m)) (sym e)
    (by_option (best_row_below entry right basis i) (best_within entry right basis i m (best_row_below entry right basis i) refl
    (omega arith)))
  where
    by_option : (o : Option ℕ) → IfSome o (λ k. k < m) → IfSome (best_after_row entry right basis i o) (λ k. k < m)
    by_option None a = by_entry_test (is_above_zero (entry i))
      where
        by_entry_test : (b : Bool) → IfSome (cond b (Some i) None) (λ k. k < m)
        by_entry_test true = omega arith
        by_entry_test false = tt
    by_option (Some k) a = by_both_tests (is_above_zero (entry i)) (comes_first (right i) (entry i) (basis i) (right k) (entry k) (basis k))
      where
        by_both_tests : (b d : Bool) → IfSome (cond b (cond d (Some i) (Some k)) (Some k)) (λ k. k < m)
        by_both_tests true true = omega arith
        by_both_tests true false = a
        by_both_tests false d = a

pub best_more : (entry right : ℕ → ℤ) (basis : ℕ → ℕ) (i : ℕ) → best_row_below entry right basis (i + 1)
    ≡ best_after_row entry right basis i (best_row_below entry right basis i)
best_more entry right basis i = let e : i + 1 ≡ suc i = omega arith in ap (best_row_below entry right basis) e

-- only the entries of the rows below i count
pub best_by_entries : (entry other right : ℕ → ℤ) (basis : ℕ → ℕ) (i : ℕ) → ((k : ℕ) → k < i → entry k ≡ other k)
    → best_row_below entry right basis i ≡ best_row_below other right basis i
best_by_entries entry other right basis zero e = refl
best_by_entries entry other right basis (suc i) e = ap (best_after_row entry right basis i)
    (best_by_entries entry other right basis i (λ k l. e k (omega arith))) ∙ by_option (best_row_below other right basis i) refl
  where
    by_option : (o : Option ℕ) → best_row_below other right basis i ≡ o → best_after_row entry right basis i o ≡ best_after_row other right basis i o
    by_option None f = ap (λ z. cond (is_above_zero z) (Some i) None) (e i (omega arith))
    by_option (Some k) f = let l : k < i = best_within other right basis i i (Some k) (sym f) (omega arith) in
        ap₂ (λ z w. cond (is_above_zero z) (cond (comes_first (right i) z (basis i) (right k) w (basis k)) (Some i) (Some k)) (Some k))
        (e i (omega arith)) (e k (omega (arith, l)))

-- the sign of a difference of n / x and k / y
difference_sign : (a b : Rational) (n k : ℤ) (x y : ℕ) → 0 < x → 0 < y → IsRatio a n x → IsRatio b k y
    → is_at_least_zero (Q.plus a (Q.minus b)) ≡ sign_least (n *ℤ pos y +ℤ neg_ℤ (k *ℤ pos x))
difference_sign a b n k x y hx hy e f =
    sign_named (Q.plus a (Q.minus b)) (n *ℤ pos y +ℤ neg_ℤ k *ℤ pos x) (x * y) (mul-pos hx hy)
    (plus_names a (Q.minus b) n (neg_ℤ k) x y hx hy e (minus_names b k y f))
    ∙ ap sign_least (sign_moves_out (n *ℤ pos y) k (pos x))
  where
    sign_moves_out : (z k x : ℤ) → z +ℤ neg_ℤ k *ℤ x ≡ z +ℤ neg_ℤ (k *ℤ x)
    sign_moves_out z k x = omega (arith, zring)

-- the best row so far is that of the run
abbrev pub IsBestRowBelow : ℕ → ℕ → SimplexTable Rational → ℕ → ℕ → Option ℕ → Type 0
IsBestRowBelow m n t c i None = leaving_row_of rationals m n t c i ≡ m
IsBestRowBelow m n t c i (Some k) = (leaving_row_of rationals m n t c i ≡ k) × (k < i) × (is_candidate rationals t c k ≡ true)

module _ (m n : ℕ) (t : SimplexTable Rational) (c : ℕ) (entry right : ℕ → ℤ) (denominator basis : ℕ → ℕ)
    (some : (i : ℕ) → i < m → 0 < denominator i) (entries : (i : ℕ) → i < m → IsRatio (t.entry i c) (entry i) (denominator i))
    (rights : (i : ℕ) → i < m → IsRatio (t.entry i (n + m)) (right i) (denominator i)) (basis_is : (i : ℕ) → i < m → t.basis i ≡ basis i) where
  pub candidate_is_above : (i : ℕ) → i < m → is_candidate rationals t c i ≡ is_above_zero (entry i)
  candidate_is_above i h = ap not (sign_named (Q.minus (t.entry i c)) (neg_ℤ (entry i)) (denominator i) (some i h)
      (minus_names (t.entry i c) (entry i) (denominator i) (entries i h)))

  above_number : (z : ℤ) → is_above_zero z ≡ true → (p : ℕ) × (0 < p) × (z ≡ pos p)
  above_number (pos zero) e = absurd (true≢false (sym e))
  above_number (pos (suc p)) e = (suc p, omega arith, refl)
  above_number (negsuc p) e = absurd (true≢false (sym e))

  ratio_named : (i p : ℕ) → i < m → 0 < p → entry i ≡ pos p → IsRatio (ratio rationals m n t c i) (right i) p
  ratio_named i p h hp e = quotient_in_row (t.entry i (n + m)) (t.entry i c) (right i) p (denominator i) (some i h) hp (rights i h)
      (subst (λ (z : ℤ). IsRatio (t.entry i c) z (denominator i)) e (entries i h))

  precedes_is : (i k : ℕ) → i < m → k < m → is_above_zero (entry i) ≡ true → is_above_zero (entry k) ≡ true
      → precedes rationals m n t c i k ≡ comes_first (right i) (entry i) (basis i) (right k) (entry k) (basis k)
  precedes_is i k hi hk oi ok =
      let p = above_number (entry i) oi in
      let q = above_number (entry k) ok in
      let ri = ratio_named i p.0 hi p.1 p.2 in
      let rk = ratio_named k q.0 hk q.1 q.2 in
      ap₂ (λ x y. cond x (y && ltb (t.basis i) (t.basis k)) true)
      (difference_sign (ratio rationals m n t c i) (ratio rationals m n t c k) (right i) (right k) p.0 q.0 p.1 q.1 ri rk
      ∙ ap₂ (λ x y. sign_least (right i *ℤ y +ℤ neg_ℤ (right k *ℤ x))) (sym p.2) (sym q.2))
      (difference_sign (ratio rationals m n t c k) (ratio rationals m n t c i) (right k) (right i) q.0 p.0 q.1 p.1 rk ri
      ∙ ap₂ (λ x y. sign_least (right k *ℤ x +ℤ neg_ℤ (right i *ℤ y))) (sym p.2) (sym q.2))
      ∙ ap₂ (λ x y. cond (sign_least (right i *ℤ entry k +ℤ neg_ℤ (right k *ℤ entry i)))
      (sign_least (right k *ℤ entry i +ℤ neg_ℤ (right i *ℤ entry k)) && ltb x y) true) (basis_is i hi) (basis_is k hk)

  best_row_agrees : (i : ℕ) → i ≤ m → IsBestRowBelow m n t c i (best_row_below entry right basis i)
  best_row_agrees zero h = refl
  best_row_agrees (suc i) h = by_option (best_row_below entry right basis i) (is_above_zero (entry i)) refl (best_row_agrees i (omega arith))
    where
      leaving_row_step : (b : Bool) → is_above_zero (entry i) ≡ b → leaving_row_of rationals m n t c (suc i)
          ≡ cond b (cond (eqb (leaving_row_of rationals m n t c i) m) i (cond
          (precedes rationals m n t c i (leaving_row_of rationals m n t c i)) i (leaving_row_of rationals m n t c i)))
          (leaving_row_of rationals m n t c i)
      leaving_row_step b e = ap (λ b. cond b (cond (eqb (leaving_row_of rationals m n t c i) m) i
          (cond (precedes rationals m n t c i (leaving_row_of rationals m n t c i)) i (leaving_row_of rationals m n t c i)))
          (leaving_row_of rationals m n t c i))
          (candidate_is_above i (omega arith) ∙ e)

      by_option : (o : Option ℕ) (b : Bool) → is_above_zero (entry i) ≡ b → IsBestRowBelow m n t c i o
          → IsBestRowBelow m n t c (suc i) (best_after_row entry right basis i o)
      by_option None false e a = subst (λ (x : Bool). IsBestRowBelow m n t c (suc i) (cond x (Some i) None)) (sym e) (leaving_row_step false e ∙ a)
      by_option None true e a = subst (λ (x : Bool). IsBestRowBelow m n t c (suc i) (cond x (Some i) None)) (sym e) (
        leaving_row_step true e ∙ ap (λ x. cond x i (cond (precedes rationals m n t c i (leaving_row_of rationals m n t c i)) i
            (leaving_row_of rationals m n t c i))) (eq-eqb (leaving_row_of rationals m n t c i) m a),
        omega arith,
        candidate_is_above i
            (omega arith) ∙ e,
      )
      by_option (Some k) false e a = subst (λ (x : Bool). IsBestRowBelow m n t c (suc i)
          (cond x (cond (comes_first (right i) (entry i) (basis i) (right k) (entry k) (basis k)) (Some i) (Some k)) (Some k))) (sym e)
          (leaving_row_step false e ∙ a.0, omega (arith, a.1), a.2)
      by_option (Some k) true e a = subst (λ (x : Bool). IsBestRowBelow m n t c (suc i)
          (cond x (cond (comes_first (right i) (entry i) (basis i) (right k) (entry k) (basis k)) (Some i) (Some k)) (Some k))) (sym e)
          (by_order_test (comes_first (right i) (entry i) (basis i) (right k) (entry k) (basis k)) refl)
        where
          same_order : precedes rationals m n t c i k ≡ comes_first (right i) (entry i) (basis i) (right k) (entry k) (basis k)
          same_order = precedes_is i k (omega arith) (omega (arith, a.1)) e (sym (candidate_is_above k (omega (arith, a.1))) ∙ a.2)

          earlier_row_leaves : leaving_row_of rationals m n t c (suc i) ≡ cond (comes_first (right i) (entry i) (basis i) (right k) (entry k) (basis k)) i k
          earlier_row_leaves = leaving_row_step true e
              ∙ ap (λ x. cond x i (cond (precedes rationals m n t c i (leaving_row_of rationals m n t c i)) i (leaving_row_of rationals m n t c i)))
              (ne_eqb (leaving_row_of rationals m n t c i) m (λ z. omega (arith, a.0, a.1, z)))
              ∙ ap (λ l. cond (precedes rationals m n t c i l) i l) a.0
              ∙ ap (λ b. cond b i k) same_order

          by_order_test : (d : Bool) → comes_first (right i) (entry i) (basis i) (right k) (entry k) (basis k) ≡ d
              → IsBestRowBelow m n t c (suc i) (cond d (Some i) (Some k))
          by_order_test true f = (earlier_row_leaves ∙ ap (λ b. cond b i k) f, omega arith, candidate_is_above i (omega arith) ∙ e)
          by_order_test false f = (earlier_row_leaves ∙ ap (λ b. cond b i k) f, omega (arith, a.1), a.2)

  pub best_row_leaves : IsBestRowBelow m n t c m (best_row_below entry right basis m)
  best_row_leaves = best_row_agrees m (omega arith)
