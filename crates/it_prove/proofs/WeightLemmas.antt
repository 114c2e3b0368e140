-- Weights that sum to the target, made whole, are a certificate.
use Rattle.std.proofs.Common.{◌≡◌, ◌≢◌, ◌↔◌, ℕ, suc, ◌+◌, ◌<◌, ◌≤◌, ℤ, pos, ◌+ℤ◌, ◌*ℤ◌, ◌≤ℤ◌, ◌<ℤ◌, List, [], ◌∷◌, ◌++◌, drop, map, length, get_or, Bool, true, false, cond, eqb, All, refl, sym, ap, ap₂, subst, ◌∙◌, arith}
use Rattle.std.proofs.lemmas.Int.{ints}
use Rattle.it_number.proofs.Ring.{ring, v, plus, times, nil}
use Rattle.it_rational.specs.Rational.{Rational}
use Rattle.it_rational.specs.Rational as Q
use Rattle.it_rational.proofs.RationalLaws.{ring_ℚ}
use Rattle.it_space.specs.Rows.{Terms, coefficient, value, Ascends}
use Rattle.std.specs.List.{AllByRecursion as Every}
use Rattle.it_number.specs.Limit.{IsWithin}
use Rattle.it_space.proofs.EveryLemmas.{all_of}
use Rattle.it_tableau.specs.Operations.{rationals}
use Rattle.it_tableau.specs.Problems.{feasibility_problem}
use Rattle.it_run.specs.Readings.{AreWeights, SumsUp, ring_combination}
use Rattle.it_run.proofs.RowValues.{sums_up, whole_plus}
use Rattle.it_elemental.specs.Generators.{Generator, generator_at}
use Rattle.it_check.specs.Verdicts.{column}
use Rattle.it_columns.specs.Columns.{columns}
use Rattle.it_prove.proofs.GeneratorWeights.{weights_from}
use Rattle.it_columns.specs.Scaling.{scale_of, scaled_number}
use Rattle.it_prove.specs.Weights.{scaled_by, numbers_of}
use Rattle.it_columns.proofs.Scales.{scale_pos, denominators_divide}
use Rattle.it_columns.proofs.Wholes.{scaled_above, whole_same, whole_scaled, whole_times}
use Rattle.it_prove.proofs.GroupLemmas.{value_total, total_by_generators}
use Prim.Native.Nat.{◌∣◌}

-- ---- sums of weights

pub weighted_scaled : (l : ℕ) (ws : List (ℕ × Rational)) (f : ℕ → ℤ) → Every (λ q. q.den ∣ l) (map (λ w. w.1) ws)
    → Q.integer (value (scaled_by l ws) f) ≡ Q.times (Q.integer (pos l)) (ring_combination rationals ws (λ j. Q.integer (f j)))
weighted_scaled l [] f d = sym (ring ring_ℚ (Q.integer (pos l) ∷ []) (times (v 0) nil) nil refl)
weighted_scaled l (w ∷ ws) f d =
    whole_plus (scaled_number l w.1 *ℤ f w.0) (value (scaled_by l ws) f)
    ∙ ap₂ Q.plus (whole_times (scaled_number l w.1) (f w.0) ∙ ap (λ x. Q.times x (Q.integer (f w.0))) (whole_scaled l w.1 d.0)) (weighted_scaled l ws f d.1)
    ∙ ring ring_ℚ (Q.integer (pos l) ∷ w.1 ∷ Q.integer (f w.0) ∷ ring_combination rationals ws (λ j. Q.integer (f j)) ∷ [])
    (plus (times (times (v 0) (v 1)) (v 2)) (times (v 0) (v 3))) (times (v 0) (plus (times (v 1) (v 2)) (v 3))) refl

-- weights that sum to a whole number, times the scale
pub scaled_sum : (l : ℕ) (ws : List (ℕ × Rational)) (f : ℕ → ℤ) (t : ℤ) → Every (λ q. q.den ∣ l) (map (λ w. w.1) ws)
    → ring_combination rationals ws (λ j. Q.integer (f j)) ≡ Q.integer t → value (scaled_by l ws) f ≡ pos l *ℤ t
scaled_sum l ws f t d e = whole_same (value (scaled_by l ws) f) (pos l *ℤ t)
    (weighted_scaled l ws f d ∙ ap (Q.times (Q.integer (pos l))) e ∙ sym (whole_times (pos l) t))

-- the first i weights are scaled, as the code appends them one after the other
pub record AreTerms (l : ℕ) (ws : List (ℕ × Rational)) (i : ℕ) (out : Terms) : Type 0 where
  pub fits : Every (λ q. IsWithin (scaled_number l q)) (numbers_of (drop i ws)) ↔ Every (λ q. IsWithin (scaled_number l q)) (numbers_of ws)
  pub same : out ++ scaled_by l (drop i ws) ≡ scaled_by l ws

-- each scaled weight is of a column and above 0
terms_of_columns : (l n from : ℕ) (ws : List (ℕ × Rational)) → AreWeights rationals n from ws → Every (λ (t : ℕ × ℤ). t.0 < n) (scaled_by l ws)
terms_of_columns l n from [] a = tt
terms_of_columns l n from (w ∷ ws) a = (a.1, terms_of_columns l n (suc w.0) ws a.3)

coefficient_not_negative : (l n from : ℕ) (ws : List (ℕ × Rational)) → 0 < l → Every (λ q. q.den ∣ l) (numbers_of ws)
    → AreWeights rationals n from ws → (j : ℕ) → pos 0 ≤ℤ coefficient (scaled_by l ws) j
coefficient_not_negative l n from [] h d a j = omega (arith, ints)
coefficient_not_negative l n from (w ∷ ws) h d a j = by_test (eqb w.0 j) (scaled_above l w.1 h d.0 a.2) (coefficient_not_negative l n (suc w.0) ws h d.1 a.3 j)
  where
    by_test : (b : Bool) → pos 0 <ℤ scaled_number l w.1 → pos 0 ≤ℤ coefficient (scaled_by l ws) j
        → pos 0 ≤ℤ (cond b (scaled_number l w.1) (pos 0) +ℤ coefficient (scaled_by l ws) j)
    by_test true g k = omega (arith, ints)
    by_test false g k = omega (arith, ints)

-- as a row over the columns they are canonical
pub scaled_terms_ascend : (l n from : ℕ) (ws : List (ℕ × Rational)) → 0 < l → Every (λ q. q.den ∣ l) (numbers_of ws)
    → Every (λ q. IsWithin (scaled_number l q)) (numbers_of ws) → AreWeights rationals n from ws → Ascends from (scaled_by l ws)
scaled_terms_ascend l n from [] h d f a = tt
scaled_terms_ascend l n from (w ∷ ws) h d f a = (
  a.0,
  not_zero (scaled_number l w.1) (scaled_above l w.1 h d.0 a.2),
  f.0,
  ascends_from_next
      (scaled_terms_ascend l n (suc w.0) ws h d.1 f.1 a.3),
)
  where
    not_zero : (x : ℤ) → pos 0 <ℤ x → x ≢ pos 0
    not_zero x h e = omega (arith, ints, e)

    ascends_from_next : Ascends (suc w.0) (scaled_by l ws) → Ascends (w.0 + 1) (scaled_by l ws)
    ascends_from_next h = subst (λ m. Ascends m (scaled_by l ws)) (plus_one w.0) h
      where
        plus_one : (m : ℕ) → suc m ≡ m + 1
        plus_one m = omega arith

-- as the code has them, with the scale that it found
pub columns_below : (m n from : ℕ) (ws : List (ℕ × Rational)) → n ≤ m → AreWeights rationals n from ws → All (λ (w : ℕ × Rational). w.0 < m) ws
columns_below m n from ws h a = all_of (λ (w : ℕ × Rational). w.0 < m) ws (every_column_below from ws a)
  where
    column_below_limit : (x : ℕ) → x < n → x < m
    column_below_limit x l = omega arith

    every_column_below : (from : ℕ) (ws : List (ℕ × Rational)) → AreWeights rationals n from ws → Every (λ (w : ℕ × Rational). w.0 < m) ws
    every_column_below from [] a = tt
    every_column_below from (w ∷ ws) a = (column_below_limit w.0 a.1, every_column_below (suc w.0) ws a.3)

module _ (n l : ℕ) (ws : List (ℕ × Rational)) (e : l ≡ scale_of (numbers_of ws)) (a : AreWeights rationals n 0 ws) where
  found_divides : Every (λ q. q.den ∣ l) (numbers_of ws)
  found_divides = subst (λ l. Every (λ q. q.den ∣ l) (numbers_of ws)) (sym e) (denominators_divide (numbers_of ws))

  found_some : 0 < l
  found_some = subst (λ l. 0 < l) (sym e) (scale_pos (numbers_of ws))

  pub terms_canonical : (ts : Terms) → ts ≡ scaled_by l ws → Every (λ q. IsWithin (scaled_number l q)) (numbers_of ws) → Ascends 0 ts
  terms_canonical ts s f = subst (Ascends 0) (sym s) (scaled_terms_ascend l n 0 ws found_some found_divides f a)

  pub terms_positive : (ts : Terms) → ts ≡ scaled_by l ws → (j : ℕ) → pos 0 ≤ℤ coefficient ts j
  terms_positive ts s j = subst (λ ts. pos 0 ≤ℤ coefficient ts j) (sym s) (coefficient_not_negative l n 0 ws found_some found_divides a j)

module _ (gs : List Generator) (coords : List ℕ) (target : Terms) (ws : List (ℕ × Rational))
    (a : SumsUp rationals (length coords) (length (columns gs)) (feasibility_problem coords (columns gs) target) ws) where
  scaled_divide : Every (λ q. q.den ∣ scale_of (numbers_of ws)) (numbers_of ws)
  scaled_divide = denominators_divide (numbers_of ws)

  scale_some : 0 < scale_of (numbers_of ws)
  scale_some = scale_pos (numbers_of ws)

  zero_plus : (k : ℕ) → 0 + k ≡ k
  zero_plus k = omega arith

  -- at each coordinate of the list
  pub adds_up : (c : ℕ) → ((k : ℕ) × (k < length coords) × (get_or coords k 0 ≡ c))
      → pos (scale_of (numbers_of ws)) *ℤ coefficient target c
      ≡ value (weights_from 0 0 gs (coefficient (scaled_by (scale_of (numbers_of ws)) ws))) (column gs c)
  adds_up c i =
      sym (scaled_sum (scale_of (numbers_of ws)) ws (λ j. coefficient (get_or (columns gs) j []) c) (coefficient target c) scaled_divide
      (sums_up coords (columns gs) target ws a c i))
      ∙ value_total c (columns gs) (scaled_by (scale_of (numbers_of ws)) ws) (terms_of_columns (scale_of (numbers_of ws)) (length (columns gs)) 0 ws a.ordered)
      ∙ total_by_generators c gs gs 0 0 (coefficient (scaled_by (scale_of (numbers_of ws)) ws)) (λ k l. ap (generator_at gs) (zero_plus k))

  pub scale_least : pos 1 ≤ℤ pos (scale_of (numbers_of ws))
  scale_least = least (scale_of (numbers_of ws)) scale_some
    where
      least : (l : ℕ) → 0 < l → pos 1 ≤ℤ pos l
      least l h = omega (arith, ints)

  pub scaled_positive : (j : ℕ) → pos 0 ≤ℤ coefficient (scaled_by (scale_of (numbers_of ws)) ws) j
  scaled_positive = coefficient_not_negative (scale_of (numbers_of ws)) (length (columns gs)) 0 ws scale_some scaled_divide a.ordered

  pub scaled_canonical : Every (λ q. IsWithin (scaled_number (scale_of (numbers_of ws)) q)) (numbers_of ws)
      → Ascends 0 (scaled_by (scale_of (numbers_of ws)) ws)
  scaled_canonical f = scaled_terms_ascend (scale_of (numbers_of ws)) (length (columns gs)) 0 ws scale_some scaled_divide f a.ordered
