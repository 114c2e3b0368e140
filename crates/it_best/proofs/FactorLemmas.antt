-- The numbers of the first phase and of the third are a factor with a certificate.
use Rattle.std.proofs.Common.{◌≡◌, ℕ, zero, suc, ◌+◌, ◌*◌, ◌<◌, ℤ, pos, neg_ℤ, ◌+ℤ◌, ◌-ℤ◌, ◌*ℤ◌, List, [], ◌∷◌, length, map, refl, sym, ap, ap₂, ◌∙◌, arith}
use Rattle.std.specs.List.{AllByRecursion as Every}
use Rattle.std.proofs.lemmas.Int.{ints}
use Rattle.it_number.proofs.Ring.{ring, v, nil}
use Rattle.it_number.proofs.Ring as S
use Rattle.it_rational.specs.Rational.{Rational, integer, plus, times, minus}
use Rattle.it_rational.proofs.RationalLaws.{ring_ℚ}
use Rattle.it_rational.proofs.Names.{same_value, quotient_names, times_names, own_name}
use Rattle.it_space.specs.Rows.{coefficient, value}
use Rattle.it_space.specs.Sums.{terms_from}
use Rattle.it_space.proofs.TermLemmas.{coefficient-negated_terms, value-single_term}
use Rattle.it_elemental.specs.Generators.{Generator, generator_at}
use Rattle.it_check.specs.Verdicts.{column}
use Rattle.it_run.proofs.RowValues.{whole_plus}
use Rattle.it_columns.specs.Scaling.{scale_of, scaled_number, scaled_point}
use Rattle.it_columns.proofs.Scales.{denominators_divide}
use Rattle.it_columns.proofs.Wholes.{whole_same, whole_times, whole_minus, whole_scaled}
use Rattle.it_best.specs.Phases.{counterweight}
use Rattle.it_best.specs.Numbers.{multiples}
use Rattle.it_best.proofs.NumberLemmas.{number_sum}
use Prim.Native.Nat.{◌∣◌}

-- ---- sums of numbers

-- the sum with the negated generators is the negated sum
pub negated_sum : (c : ℕ) (xs : List Rational) (gs : List Generator) → number_sum c xs (map counterweight gs) ≡ minus (number_sum c xs gs)
negated_sum c [] gs = ring ring_ℚ [] nil (S.minus nil) refl
negated_sum c (x ∷ xs) [] = ring ring_ℚ [] nil (S.minus nil) refl
negated_sum c (x ∷ xs) (g ∷ gs) =
    ap₂ (λ y z. plus (times x y) z) (ap integer (coefficient-negated_terms c g.row) ∙ whole_minus (coefficient g.row c)) (negated_sum c xs gs)
    ∙ ring ring_ℚ (x ∷ integer (coefficient g.row c) ∷ number_sum c xs gs ∷ []) (S.plus (S.times (v 0) (S.minus (v 1))) (S.minus (v 2)))
    (S.minus (S.plus (S.times (v 0) (v 1)) (v 2))) refl

-- each number k times
pub multiple_sum : (c : ℕ) (k : ℤ) (xs : List Rational) (gs : List Generator) → number_sum c (multiples k xs) gs ≡ times (integer k) (number_sum c xs gs)
multiple_sum c k [] gs = ring ring_ℚ (integer k ∷ []) nil (S.times (v 0) nil) refl
multiple_sum c k (x ∷ xs) [] = ring ring_ℚ (integer k ∷ []) nil (S.times (v 0) nil) refl
multiple_sum c k (x ∷ xs) (g ∷ gs) =
    ap (plus (times (times x (integer k)) (integer (coefficient g.row c)))) (multiple_sum c k xs gs)
    ∙ ring ring_ℚ (x ∷ integer k ∷ integer (coefficient g.row c) ∷ number_sum c xs gs ∷ [])
    (S.plus (S.times (S.times (v 0) (v 1)) (v 2)) (S.times (v 1) (v 3))) (S.times (v 1) (S.plus (S.times (v 0) (v 2)) (v 3))) refl

-- whole numbers after their places, as weights of generators, from number i on
zero_more : (i : ℕ) → i ≡ i + zero
zero_more i = omega arith

next_more : (i k : ℕ) → i + 1 + k ≡ i + suc k
next_more i k = omega arith

pub weighted_terms : (c l i : ℕ) (all gs : List Generator) (xs : List Rational) → length xs ≡ length gs
    → ((k : ℕ) → k < length gs → generator_at all (i + k) ≡ generator_at gs k) → Every (λ q. q.den ∣ l) xs
    → integer (value (terms_from i (map (scaled_number l) xs)) (column all c)) ≡ times (integer (pos l)) (number_sum c xs gs)
weighted_terms c l i all [] [] e h d = ring ring_ℚ (integer (pos l) ∷ []) nil (S.times (v 0) nil) refl
weighted_terms c l i all (g ∷ gs) [] e h d = absurd (omega (arith, e))
weighted_terms c l i all [] (x ∷ xs) e h d = absurd (omega (arith, e))
weighted_terms c l i all (g ∷ gs) (x ∷ xs) e h d =
    let here : generator_at all i ≡ g = ap (generator_at all) (zero_more i) ∙ h zero (omega arith) in
    ap integer (value-single_term i (scaled_number l x) (terms_from (i + 1) (map (scaled_number l) xs)) (column all c)
    ∙ ap (λ (u : Generator). scaled_number l x *ℤ coefficient u.row c +ℤ value (terms_from (i + 1) (map (scaled_number l) xs)) (column all c)) here)
    ∙ whole_plus (scaled_number l x *ℤ coefficient g.row c) (value (terms_from (i + 1) (map (scaled_number l) xs)) (column all c))
    ∙ ap₂ plus (whole_times (scaled_number l x) (coefficient g.row c) ∙ ap (λ y. times y (integer (coefficient g.row c))) (whole_scaled l x d.0))
    (weighted_terms c l (i + 1) all gs xs (omega (arith, e)) (λ k m. ap (generator_at all) (next_more i k) ∙ h (suc k) (omega arith)) d.1)
    ∙ ring ring_ℚ (integer (pos l) ∷ x ∷ integer (coefficient g.row c) ∷ number_sum c xs gs ∷ [])
    (S.plus (S.times (S.times (v 0) (v 1)) (v 2)) (S.times (v 0) (v 3))) (S.times (v 0) (S.plus (S.times (v 1) (v 2)) (v 3))) refl

-- a number times its denominator is its numerator
pub times_den : (x : Rational) → times (integer (pos x.den)) x ≡ integer x.num
times_den x = same_value (times (integer (pos x.den)) x) (integer x.num) (pos x.den *ℤ x.num) x.num (1 * x.den) 1 (omega (arith, x.positive)) (omega arith)
    (times_names (integer (pos x.den)) x (pos x.den) x.num 1 x.den (omega arith) x.positive (quotient_names (pos x.den) 1 (omega arith)) (own_name x))
    (quotient_names x.num 1 (omega arith))
    (cross x.num x.den)
  where
    cross : (n : ℤ) (d : ℕ) → (pos d *ℤ n) *ℤ pos 1 ≡ n *ℤ pos (1 * d)
    cross n d = omega (arith, ints)

-- if a factor times the left side less weights times the generators is the right side, the denominator times these weights gives the
-- numerator times the left side less the denominator times the right one
pub factor_sum : (c : ℕ) (x : Rational) (xs : List Rational) (gs : List Generator) (l r : ℤ)
    → plus (times x (integer l)) (number_sum c xs (map counterweight gs)) ≡ integer r
    → number_sum c (multiples (pos x.den) xs) gs ≡ integer (x.num *ℤ l -ℤ pos x.den *ℤ r)
factor_sum c x xs gs l r e =
    multiple_sum c (pos x.den) xs gs
    ∙ ap (times (integer (pos x.den))) (weights_are (number_sum c xs gs) (times x (integer l)) (integer r)
    (ap (plus (times x (integer l))) (sym (negated_sum c xs gs)) ∙ e))
    ∙ ring ring_ℚ (integer (pos x.den) ∷ x ∷ integer l ∷ integer r ∷ []) (S.times (v 0) (S.plus (S.times (v 1) (v 2)) (S.minus (v 3))))
    (S.plus (S.times (S.times (v 0) (v 1)) (v 2)) (S.minus (S.times (v 0) (v 3)))) refl
    ∙ ap₂ (λ y z. plus (times y (integer l)) (minus z)) (times_den x) (sym (whole_times (pos x.den) r))
    ∙ ap₂ plus (sym (whole_times x.num l)) (sym (whole_minus (pos x.den *ℤ r)))
    ∙ sym (whole_plus (x.num *ℤ l) (neg_ℤ (pos x.den *ℤ r)))
    ∙ ap integer (as_difference (x.num *ℤ l) (pos x.den *ℤ r))
  where
    weights_are : (s t r : Rational) → plus t (minus s) ≡ r → s ≡ plus t (minus r)
    weights_are s t r e = ring ring_ℚ (s ∷ t ∷ []) (v 0) (S.plus (v 1) (S.minus (S.plus (v 1) (S.minus (v 0))))) refl ∙ ap (λ y. plus t (minus y)) e

    as_difference : (x y : ℤ) → x +ℤ neg_ℤ y ≡ x -ℤ y
    as_difference x y = omega (arith, ints)

-- ---- as a certificate

-- numbers that sum to whole numbers, made whole by their scale, sum to these times the scale
pub certificate_sum : (c : ℕ) (gs : List Generator) (xs : List Rational) (t : ℤ) → length xs ≡ length gs → number_sum c xs gs ≡ integer t
    → pos (scale_of xs) *ℤ t ≡ value (terms_from 0 (scaled_point xs)) (column gs c)
certificate_sum c gs xs t e s = whole_same (pos (scale_of xs) *ℤ t) (value (terms_from 0 (scaled_point xs)) (column gs c))
    (whole_times (pos (scale_of xs)) t ∙ ap (times (integer (pos (scale_of xs)))) (sym s)
    ∙ sym (weighted_terms c (scale_of xs) 0 gs gs xs e (λ k h. ap (generator_at gs) (zero_plus k)) (denominators_divide xs)))
  where
    zero_plus : (k : ℕ) → 0 + k ≡ k
    zero_plus k = omega arith
