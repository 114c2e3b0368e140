-- The lists of weights and of a point's values as they are filled, one after another.
use Rattle.std.proofs.Common.{◌≡◌, ℕ, suc, ◌+◌, ◌-◌, ◌<◌, ◌++◌, pos, true, false, cond, ◌&&◌, not, Bool, List, [], ◌∷◌, refl, sym, ap, ap₂, ◌∙◌, arith}
use Rattle.std.proofs.lemmas.List.{append_assoc}
use Rattle.it_rational.specs.Rational.{Rational, integer, minus, times, is_at_least_zero}
use Rattle.it_rational.proofs.RationalLaws.{ring_ℚ}
use Rattle.it_rational.proofs.Field.{rational_strict, field_ℚ}
use Rattle.it_rational.proofs.Ordered.{null-least}
use Rattle.it_number.proofs.Ring.{neg-null}
use Rattle.it_tableau.specs.Operations.{rationals}
use Rattle.it_tableau.specs.SimplexTables.{SimplexTable, FeasibilityProblem}
use Rattle.it_tableau.specs.TableauViews.{TableauView, height, table}
use Rattle.it_run.specs.Readings.{weight, weights, point}
use Rattle.it_run.proofs.ReadingLists.{weights_from_column, point_from_row}
use Rattle.it_run.specs.Answers.{sign_number, HasSigns}

module _ (m n : ℕ) (t : SimplexTable Rational) where
  -- the weight of a column
  abbrev W : ℕ → Rational
  W j = weight rationals m n t j

  -- the weights that are still to come
  abbrev From : ℕ → ℕ → List (ℕ × Rational)
  From = weights_from_column rationals m n t

  -- the list so far with what is still to come is the list of all
  abbrev pub AreWeightsSoFar : List (ℕ × Rational) → ℕ → Type 0
  AreWeightsSoFar out j = out ++ weights_from_column rationals m n t j (n - j) ≡ weights rationals m n t

  split_off : (j : ℕ) → j < n → From j (n - j) ≡ cond (not (is_at_least_zero (W j) && is_at_least_zero (minus (W j))))
      ((j, W j) ∷ From (j + 1) (n - (j + 1))) (From (j + 1) (n - (j + 1)))
  split_off j l = ap (From j) rest_is_longer
    where
      rest_is_longer : n - j ≡ suc (n - (j + 1))
      rest_is_longer = omega arith

  pub weights_skip_null : (out : List (ℕ × Rational)) (j : ℕ) → j < n → W j ≡ integer (pos 0) → AreWeightsSoFar out j → AreWeightsSoFar out (j + 1)
  weights_skip_null out j l e h = ap (λ xs. out ++ xs) (sym
      (split_off j l ∙ ap₂ (λ b d. cond (not (b && d)) ((j, W j) ∷ From (j + 1) (n - (j + 1))) (From (j + 1) (n - (j + 1))))
      (ap is_at_least_zero e ∙ null-least field_ℚ) (ap (λ x. is_at_least_zero (minus x)) e ∙ ap is_at_least_zero (neg-null ring_ℚ) ∙ null-least field_ℚ))) ∙ h

  pub weights_with_next : (out : List (ℕ × Rational)) (j : ℕ) (w : Rational) → j < n → w ≡ W j → ¬ (w ≡ integer (pos 0))
      → AreWeightsSoFar out j → AreWeightsSoFar (out ++ ((j, w) ∷ [])) (j + 1)
  weights_with_next out j w l e d h =
      append_assoc out ((j, w) ∷ []) (From (j + 1) (n - (j + 1)))
      ∙ ap (λ x. out ++ ((j, x) ∷ From (j + 1) (n - (j + 1)))) e
      ∙ ap (λ xs. out ++ xs) (sym (split_off j l ∙ ap (λ b. cond (not b) ((j, W j) ∷ From (j + 1) (n - (j + 1)))
      (From (j + 1) (n - (j + 1)))) (by_test (is_at_least_zero (W j)) (is_at_least_zero (minus (W j))) refl refl)))
      ∙ h
    where
      by_test : (a b : Bool) → is_at_least_zero (W j) ≡ a → is_at_least_zero (minus (W j)) ≡ b
          → (is_at_least_zero (W j) && is_at_least_zero (minus (W j))) ≡ false
      by_test true true f g = absurd (d (e ∙ rational_strict (W j) f g))
      by_test true false f g = ap₂ (λ x y. x && y) f g
      by_test false b f g = ap₂ (λ x y. x && y) f g

-- the values so far with those that are still to come are those of the point
abbrev pub ValuesSoFar : TableauView → List Rational → ℕ → Type 0
ValuesSoFar t out k = (p : FeasibilityProblem Rational) → HasSigns t p
    → out ++ point_from_row rationals (height t) t.generator_columns p (table t) k (height t - k) ≡ point rationals (height t) t.generator_columns p (table t)

pub values_more : (t : TableauView) (out : List Rational) (k : ℕ) (x : Rational) → k < height t
    → x ≡ times (sign_number t k) ((table t).entry (height t) (t.generator_columns + k))
    → ValuesSoFar t out k → ValuesSoFar t (out ++ x ∷ []) (k + 1)
values_more t out k x l e h p s =
    append_assoc out (x ∷ []) (rest (k + 1) (height t - (k + 1)))
    ∙ ap (λ y. out ++ y ∷ rest (k + 1) (height t - (k + 1))) (e ∙ ap (λ z. times z ((table t).entry (height t) (t.generator_columns + k))) (s k l))
    ∙ ap (λ xs. out ++ xs) (sym (ap (rest k) rest_is_longer))
    ∙ h p s
  where
    rest : ℕ → ℕ → List Rational
    rest = point_from_row rationals (height t) t.generator_columns p (table t)

    rest_is_longer : height t - k ≡ suc (height t - (k + 1))
    rest_is_longer = omega arith
