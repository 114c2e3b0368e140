-- What the searches find is what the definitions compute.
use Rattle.std.proofs.Common.{◌≡◌, ℕ, zero, suc, ◌+◌, ◌<◌, ◌≤◌, Bool, true, false, cond, ◌&&◌, ltb, refl, sym, ap, ap₂, subst, ◌∙◌, ◌⊎◌, inl, inr, arith, Less, Equal, Greater, Option, Some, None, eqb}
use Rattle.std.proofs.lemmas.Bool.{cases_lt, true≢false, eq-eqb, ne_eqb}
use Rattle.it_rational.specs.Rational.{Rational, plus, minus, rational_cmp, is_at_least_zero}
use Rattle.it_rational.proofs.Signs.{cmp_less, cmp_greater, cmp_equal}
use Rattle.it_tableau.specs.Operations.{rationals}
use Rattle.it_tableau.specs.SimplexTables.{SimplexTable, ratio}
use Rattle.it_run.specs.Choice.{first_false, leaving_row_of, is_candidate, precedes}
use Rattle.it_run.specs.Steps.{ratio_precedes, best_after, IsBestOf}
use Rattle.it_run.proofs.BlandRule.{first_before, first_at}

pub first_false_at_most : (f : ℕ → Bool) (k left : ℕ) → first_false f k left ≤ k + left
first_false_at_most f k zero = omega arith
first_false_at_most f k (suc left) = by_test (f k) (first_false_at_most f (suc k) left)
  where
    by_test : (b : Bool) → first_false f (suc k) left ≤ suc k + left → cond b (first_false f (suc k) left) k ≤ k + suc left
    by_test true ih = omega arith
    by_test false ih = omega arith

-- the first number at which one function is false is that of another which agrees with it
pub first_false_agrees : (f g : ℕ → Bool) (k left : ℕ) → ((j : ℕ) → k ≤ j → j < k + left → f j ≡ g j) → first_false f k left ≡ first_false g k left
first_false_agrees f g k zero e = refl
first_false_agrees f g k (suc left) e = ap₂ (λ b x. cond b x k) (e k (omega arith) (omega arith))
    (first_false_agrees f g (suc k) left (λ j a b. e j (omega arith) (omega arith)))

pub first_is : (f : ℕ → Bool) (n j : ℕ) → j < n → ((k : ℕ) → k < j → f k ≡ true) → f j ≡ false → first_false f 0 n ≡ j
first_is f n j l before here = by_cases (cases_lt (first_false f 0 n) j) (cases_lt j (first_false f 0 n))
  where
    by_cases : (first_false f 0 n < j) ⊎ (j ≤ first_false f 0 n) → (j < first_false f 0 n) ⊎ (first_false f 0 n ≤ j) → first_false f 0 n ≡ j
    by_cases (inl a) b = absurd (true≢false (sym (before (first_false f 0 n) a) ∙ first_at f 0 n (omega arith)))
    by_cases (inr a) (inl b) = absurd (true≢false (sym (first_before f 0 n j (omega arith) b) ∙ here))
    by_cases (inr a) (inr b) = omega arith

pub first_none : (f : ℕ → Bool) (n : ℕ) → ((k : ℕ) → k < n → f k ≡ true) → first_false f 0 n ≡ n
first_none f n all = by_cases (cases_lt (first_false f 0 n) n)
  where
    by_cases : (first_false f 0 n < n) ⊎ (n ≤ first_false f 0 n) → first_false f 0 n ≡ n
    by_cases (inl a) = absurd (true≢false (sym (all (first_false f 0 n) a) ∙ first_at f 0 n (omega arith)))
    by_cases (inr a) = let u = first_false_at_most f 0 n in omega (arith, u)

pub before_less : (q best : Rational) (b d : ℕ) → rational_cmp q best ≡ Less → ratio_precedes q b best d ≡ true
before_less q best b d e = ap (λ x. cond x (is_at_least_zero (plus best (minus q)) && ltb b d) true) (cmp_less q best e)

pub before_greater : (q best : Rational) (b d : ℕ) → rational_cmp q best ≡ Greater → ratio_precedes q b best d ≡ false
before_greater q best b d e = let g = cmp_greater q best e in ap₂ (λ x y. cond x (y && ltb b d) true) g.0 g.1

pub before_equal : (q best : Rational) (b d : ℕ) → rational_cmp q best ≡ Equal → ratio_precedes q b best d ≡ ltb b d
before_equal q best b d e = let g = cmp_equal q best e in ap₂ (λ x y. cond x (y && ltb b d) true) g.0 g.1

pub best_skips : (m n : ℕ) (t : SimplexTable Rational) (c i : ℕ) (best : Option (ℕ × Rational)) → is_candidate rationals t c i ≡ false
    → IsBestOf m n t c i best → IsBestOf m n t c (i + 1) best
best_skips m n t c i best o h = subst (λ (k : ℕ). IsBestOf m n t c k best) next_row (by_option best h)
  where
    next_row : suc i ≡ i + 1
    next_row = omega arith

    same_row : leaving_row_of rationals m n t c (suc i) ≡ leaving_row_of rationals m n t c i
    same_row = ap (λ b. cond b (cond (eqb (leaving_row_of rationals m n t c i) m) i
        (cond (precedes rationals m n t c i (leaving_row_of rationals m n t c i)) i (leaving_row_of rationals m n t c i)))
        (leaving_row_of rationals m n t c i)) o

    by_option : (best : Option (ℕ × Rational)) → IsBestOf m n t c i best → IsBestOf m n t c (suc i) best
    by_option None h = same_row ∙ h
    by_option (Some b) h = (same_row ∙ h.0, omega (arith, h.1), h.2, h.3)

pub best_takes : (m n : ℕ) (t : SimplexTable Rational) (c i : ℕ) (q : Rational) (best : Option (ℕ × Rational)) → i < m
    → is_candidate rationals t c i ≡ true → q ≡ ratio rationals m n t c i
    → IsBestOf m n t c i best → IsBestOf m n t c (i + 1) (best_after best i q t.basis)
best_takes m n t c i q best hi o e h = subst (λ (k : ℕ). IsBestOf m n t c k (best_after best i q t.basis)) next_row (by_option best h)
  where
    next_row : suc i ≡ i + 1
    next_row = omega arith

    leaving_row_step : leaving_row_of rationals m n t c (suc i) ≡ cond (eqb (leaving_row_of rationals m n t c i) m) i
        (cond (precedes rationals m n t c i (leaving_row_of rationals m n t c i)) i (leaving_row_of rationals m n t c i))
    leaving_row_step = ap (λ b. cond b (cond (eqb (leaving_row_of rationals m n t c i) m) i
        (cond (precedes rationals m n t c i (leaving_row_of rationals m n t c i)) i (leaving_row_of rationals m n t c i)))
        (leaving_row_of rationals m n t c i)) o

    by_option : (best : Option (ℕ × Rational)) → IsBestOf m n t c i best → IsBestOf m n t c (suc i) (best_after best i q t.basis)
    by_option None h = (
      leaving_row_step ∙ ap (λ b. cond b i (cond (precedes rationals m n t c i (leaving_row_of rationals m n t c i)) i
          (leaving_row_of rationals m n t c i))) (eq-eqb (leaving_row_of rationals m n t c i) m h),
      omega arith,
      e,
      o,
    )
    by_option (Some b) h = by_order_test (ratio_precedes q (t.basis i) b.1 (t.basis b.0)) refl
      where
        earlier_row_leaves : leaving_row_of rationals m n t c (suc i) ≡ cond (ratio_precedes q (t.basis i) b.1 (t.basis b.0)) i b.0
        earlier_row_leaves = leaving_row_step
            ∙ ap (λ x. cond x i (cond (precedes rationals m n t c i (leaving_row_of rationals m n t c i)) i (leaving_row_of rationals m n t c i)))
            (ne_eqb (leaving_row_of rationals m n t c i) m (λ z. omega (arith, h.0, h.1)))
            ∙ ap (λ k. cond (precedes rationals m n t c i k) i k) h.0
            ∙ ap₂ (λ x y. cond (ratio_precedes x (t.basis i) y (t.basis b.0)) i b.0) (sym e) (sym h.2)

        by_order_test : (d : Bool) → ratio_precedes q (t.basis i) b.1 (t.basis b.0) ≡ d → IsBestOf m n t c (suc i) (cond d (Some (i, q)) (Some b))
        by_order_test true f = (earlier_row_leaves ∙ ap (λ x. cond x i b.0) f, omega arith, e, o)
        by_order_test false f = (earlier_row_leaves ∙ ap (λ x. cond x i b.0) f, omega (arith, h.1), h.2, h.3)
