-- The numbers of unknowns, by the weights of their columns: they sum up to the target as the weights do.
use Rattle.std.proofs.Common.{◌≡◌, ℕ, zero, suc, ◌+◌, ◌<◌, ◌≤◌, pos, List, [], ◌∷◌, ◌++◌, length, get_or, Bool, true, false, cond, nat_eq, eq-eqb, ne_eqb, refl, sym, ap, ap₂, ◌∙◌, arith}
use Rattle.it_number.proofs.Ring.{ring, v, nil}
use Rattle.it_closure.specs.Sizes.{column_count}
use Rattle.it_best.proofs.UnknownNumbers.{unknown_number, unknown_numbers}
use Rattle.it_number.proofs.Ring as S
use Rattle.it_rational.specs.Rational.{Rational, integer, plus, times, minus, sign_least, is_at_least_zero}
use Rattle.it_rational.proofs.RationalLaws.{ring_ℚ}
use Rattle.it_rational.proofs.Field.{field_ℚ}
use Rattle.it_problems.specs.declared.problems.Kind.{Kind}
use Rattle.it_problems.specs.declared.problems.Kind.TheVariants.{Inequality, Equation}
use Rattle.it_space.specs.Rows.{Terms, coefficient}
use Rattle.it_space.proofs.TermLemmas.{coefficient-negated_terms}
use Rattle.it_polymatroid.specs.Elementals.{span}
use Rattle.it_tableau.specs.Operations.{rationals}
use Rattle.it_tableau.specs.Problems.{feasibility_problem}
use Rattle.it_run.specs.Readings.{AreWeights, SumsUp, ring_combination}
use Rattle.it_run.proofs.RowValues.{sums_up}
use Rattle.it_elemental.specs.Generators.{Generator}
use Rattle.it_columns.specs.Columns.{columns, columns_by, numbers_from}
use Rattle.it_columns.proofs.Wholes.{whole_minus, whole_parts}
use Rattle.it_best.specs.Numbers.{column_weight, numbers}
use Rattle.it_best.proofs.WholePoints.{in_span}

-- the sum of numbers times the coefficients of rows at a coordinate
abbrev pub number_sum : ℕ → List Rational → List Generator → Rational
number_sum c [] us = integer (pos 0)
number_sum c (x ∷ xs) [] = integer (pos 0)
number_sum c (x ∷ xs) (u ∷ us) = plus (times x (integer (coefficient u.row c))) (number_sum c xs us)

module _ (c : ℕ) where
  -- the sum over columns from number j on
  abbrev total : ℕ → List Terms → (ℕ → Rational) → Rational
  total j [] f = integer (pos 0)
  total j (r ∷ rs) f = plus (times (f j) (integer (coefficient r c))) (total (j + 1) rs f)

  total-null : (j : ℕ) (cols : List Terms) → total j cols (λ k. integer (pos 0)) ≡ integer (pos 0)
  total-null j [] = refl
  total-null j (r ∷ rs) = ap (plus (times (integer (pos 0)) (integer (coefficient r c)))) (total-null (j + 1) rs)
      ∙ ring ring_ℚ (integer (coefficient r c) ∷ []) (S.plus (S.times nil (v 0)) nil) nil refl

  total-add : (j : ℕ) (cols : List Terms) (f g : ℕ → Rational) → total j cols (λ k. plus (f k) (g k)) ≡ plus (total j cols f) (total j cols g)
  total-add j [] f g = ring ring_ℚ [] nil (S.plus nil nil) refl
  total-add j (r ∷ rs) f g = ap (plus (times (plus (f j) (g j)) (integer (coefficient r c)))) (total-add (j + 1) rs f g)
      ∙ ring ring_ℚ (f j ∷ g j ∷ integer (coefficient r c) ∷ total (j + 1) rs f ∷ total (j + 1) rs g ∷ [])
      (S.plus (S.times (S.plus (v 0) (v 1)) (v 2)) (S.plus (v 3) (v 4))) (S.plus (S.plus (S.times (v 0) (v 2)) (v 3)) (S.plus (S.times (v 1) (v 2)) (v 4))) refl

  total-past : (i j : ℕ) (x : Rational) (cols : List Terms) → i < j → total j cols (λ k. cond (nat_eq i k) x (integer (pos 0))) ≡ integer (pos 0)
  total-past i j x [] h = refl
  total-past i j x (r ∷ rs) h = ap₂ (λ b y. plus (times (cond b x (integer (pos 0))) (integer (coefficient r c))) y)
      (ne_eqb i j (λ e. omega arith)) (total-past i (j + 1) x rs (omega arith))
      ∙ ring ring_ℚ (integer (coefficient r c) ∷ []) (S.plus (S.times nil (v 0)) nil) nil refl

  total-one : (i j k : ℕ) (x : Rational) (cols : List Terms) → i < length cols → k ≡ j + i
      → total j cols (λ n. cond (nat_eq k n) x (integer (pos 0))) ≡ times x (integer (coefficient (get_or cols i []) c))
  total-one i j k x [] h e = absurd (omega arith)
  total-one zero j k x (r ∷ rs) h e =
      ap₂ (λ b y. plus (times (cond b x (integer (pos 0))) (integer (coefficient r c))) y) (eq-eqb k j (omega arith)) (total-past k (j + 1) x rs (omega arith))
      ∙ ring ring_ℚ (x ∷ integer (coefficient r c) ∷ []) (S.plus (S.times (v 0) (v 1)) nil) (S.times (v 0) (v 1)) refl
  total-one (suc i) j k x (r ∷ rs) h e =
      ap₂ (λ b y. plus (times (cond b x (integer (pos 0))) (integer (coefficient r c))) y) (ne_eqb k j (λ q. omega arith))
      (total-one i (j + 1) k x rs (omega arith) (omega arith))
      ∙ ring ring_ℚ (integer (coefficient r c) ∷ times x (integer (coefficient (get_or rs i []) c)) ∷ []) (S.plus (S.times nil (v 0)) (v 1)) (v 1) refl

  -- a sum over weights is one over all columns
  weights_total : (n from : ℕ) (cols : List Terms) (ws : List (ℕ × Rational)) → n ≡ length cols → AreWeights rationals n from ws
      → ring_combination rationals ws (λ j. integer (coefficient (get_or cols j []) c)) ≡ total 0 cols (column_weight ws)
  weights_total n from cols [] e a = sym (total-null 0 cols)
  weights_total n from cols (w ∷ ws) e a =
      ap₂ plus (sym (total-one w.0 0 w.0 w.1 cols (omega (arith, a.1, e)) (omega arith))) (weights_total n (suc w.0) cols ws e a.3)
      ∙ sym (total-add 0 cols (λ k. cond (nat_eq w.0 k) w.1 (integer (pos 0))) (column_weight ws))

  one_unknown : (k : Kind) (r : Terms) (j : ℕ) (cols : List Terms) (f : ℕ → Rational)
      → total j (columns_by k r ++ cols) f ≡ plus (times (unknown_number k f j) (integer (coefficient r c))) (total (j + column_count k) cols f)
  one_unknown Inequality r j cols f = refl
  one_unknown Equation r j cols f =
      ap₂ (λ x y. plus (times (f j) (integer (coefficient r c))) (plus (times (f (j + 1)) x) y))
      (ap integer (coefficient-negated_terms c r) ∙ whole_minus (coefficient r c)) (ap (λ m. total m cols f) plus_two)
      ∙ ring ring_ℚ (f j ∷ f (j + 1) ∷ integer (coefficient r c) ∷ total (j + 2) cols f ∷ [])
      (S.plus (S.times (v 0) (v 2)) (S.plus (S.times (v 1) (S.minus (v 2))) (v 3))) (S.plus (S.times (S.plus (v 0) (S.minus (v 1))) (v 2)) (v 3)) refl
    where
      plus_two : j + 1 + 1 ≡ j + 2
      plus_two = omega arith

  -- the sum over columns is that over unknowns
  total_by_unknowns : (us : List Generator) (j : ℕ) (f : ℕ → Rational) → total j (columns us) f ≡ number_sum c (unknown_numbers j us f) us
  unfolding columns numbers_from
  total_by_unknowns [] j f = refl
  total_by_unknowns (u ∷ us) j f = one_unknown u.kind u.row j (columns us) f
      ∙ ap (plus (times (unknown_number u.kind f j) (integer (coefficient u.row c)))) (total_by_unknowns us (j + column_count u.kind) f)

-- at each equation the numbers sum up to the target
pub numbers_sum_up : (m : ℕ) (us : List Generator) (target : Terms) (ws : List (ℕ × Rational))
    → SumsUp rationals (length (span 1 m)) (length (columns us)) (feasibility_problem (span 1 m) (columns us) target) ws
    → (c : ℕ) → 1 ≤ c → c ≤ m → number_sum c (numbers us ws) us ≡ integer (coefficient target c)
numbers_sum_up m us target ws s c h l =
    sym (weights_total c (length (columns us)) 0 (columns us) ws refl s.ordered ∙ total_by_unknowns c us 0 (column_weight ws))
    ∙ sums_up (span 1 m) (columns us) target ws s c (in_span m c h l)

-- ---- signs

-- bounded unknowns have numbers of at least 0
abbrev pub AreNumbers : List Rational → List Generator → Type 0
AreNumbers [] us = Unit {0}
AreNumbers (x ∷ xs) [] = Unit {0}
AreNumbers (x ∷ xs) (u ∷ us) = (u.kind ≡ Inequality → is_at_least_zero x ≡ true) × AreNumbers xs us

pub zero_least : is_at_least_zero (integer (pos 0)) ≡ true
zero_least = ap sign_least (whole_parts (pos 0)).0

weight_least : (n from : ℕ) (ws : List (ℕ × Rational)) → AreWeights rationals n from ws → (j : ℕ) → is_at_least_zero (column_weight ws j) ≡ true
weight_least n from [] a j = zero_least
weight_least n from (w ∷ ws) a j = field_ℚ.order.add-least (cond (nat_eq w.0 j) w.1 (integer (pos 0))) (column_weight ws j)
    (by_test (nat_eq w.0 j)) (weight_least n (suc w.0) ws a.3 j)
  where
    positive : is_at_least_zero w.1 ≡ true
    positive = by_sign (field_ℚ.order.total w.1)
      where
        by_sign : Rattle.std.proofs.Common.◌⊎◌ (is_at_least_zero w.1 ≡ true) (is_at_least_zero (minus w.1) ≡ true) → is_at_least_zero w.1 ≡ true
        by_sign (Rattle.std.proofs.Common.inl e) = e
        by_sign (Rattle.std.proofs.Common.inr e) = absurd (Rattle.std.proofs.lemmas.Bool.true≢false (sym e ∙ a.2))

    by_test : (b : Bool) → is_at_least_zero (cond b w.1 (integer (pos 0))) ≡ true
    by_test true = positive
    by_test false = zero_least

pub are_numbers : (us : List Generator) (j : ℕ) (f : ℕ → Rational) → ((k : ℕ) → is_at_least_zero (f k) ≡ true) → AreNumbers (unknown_numbers j us f) us
unfolding numbers_from
are_numbers [] j f h = tt
are_numbers (u ∷ us) j f h = (by_kind u.kind, are_numbers us (j + column_count u.kind) f h)
  where
    by_kind : (k : Kind) → k ≡ Inequality → is_at_least_zero (unknown_number k f j) ≡ true
    by_kind Inequality e = h j
    by_kind Equation e = absurd (cc)

pub length-numbers_from : (us : List Generator) (j : ℕ) (f : ℕ → Rational) → length (unknown_numbers j us f) ≡ length us
unfolding numbers_from
length-numbers_from [] j f = refl
length-numbers_from (u ∷ us) j f = ap suc (length-numbers_from us (j + column_count u.kind) f)

pub numbers_signed : (us : List Generator) (n : ℕ) (ws : List (ℕ × Rational)) → AreWeights rationals n 0 ws → AreNumbers (numbers us ws) us
numbers_signed us n ws a = are_numbers us 0 (column_weight ws) (weight_least n 0 ws a)
