-- A step on a table of short whole numbers, each row over one short denominator, isn't wide.
use Rattle.std.proofs.Common.{◌≡◌, ℕ, zero, suc, ◌+◌, ◌*◌, ◌<◌, ◌≤◌, ◌^◌, ℤ, pos, negsuc, ◌+ℤ◌, ◌*ℤ◌, neg_ℤ, unsigned_abs, true, not, refl, sym, ap, subst, ◌∙◌, arith, mul-pos}
use Rattle.std.proofs.lemmas.Bool.{true≢false}
use Rattle.std.proofs.lemmas.Int.{ints}
use Rattle.it_number.specs.Limit.{IsWithin}
use Rattle.it_number.proofs.SignLemmas.{size_negated}
use Rattle.it_rational.specs.Rational.{Rational, sign_least, is_at_least_zero, IsRatio}
use Rattle.it_rational.specs.Rational as Q
use Rattle.it_fraction.specs.Fits.{IsNarrow}
use Rattle.it_tableau.specs.Operations.{rationals}
use Rattle.it_tableau.specs.SimplexTables.{SimplexTable, ratio}
use Rattle.it_tableau.specs.Fits.{EntryFits, PivotFits}
use Rattle.it_run.specs.Choice.{entering_column, leaving_row, is_candidate}
use Rattle.it_run.specs.Solving.{StepFits}
use Rattle.it_vectors.specs.Sizes.{IsShort}
use Rattle.it_engine.specs.Tables.{IsTableOver}
use Rattle.it_engine.proofs.Narrowness.{narrow_by, difference_fits}
use Rattle.it_vectors.proofs.Bounds.{half_product}
use Rattle.it_whole.proofs.Names.{minus_names, sign_named, scaled_name, quotient_in_row, quotient_of_names, product_in_row}

pub half_within : (z : ℤ) → unsigned_abs z < 2 ^ 126 → IsWithin z
half_within z h = for_each (unsigned_abs z) h
  where
    for_each : (k : ℕ) → k < 2 ^ 126 → k < 2 ^ 127
    for_each k h = omega (arith, h)

pub short_within : (z : ℤ) → IsShort z → IsWithin z
short_within z h = for_each (unsigned_abs z) h
  where
    for_each : (k : ℕ) → k < 2 ^ 63 → k < 2 ^ 127
    for_each k h = omega (arith, h)

pub halves_within : (x y : ℤ) → unsigned_abs x < 2 ^ 126 → unsigned_abs y < 2 ^ 126 → IsWithin (x +ℤ neg_ℤ y)
halves_within x y h k = for_each (unsigned_abs x) (unsigned_abs y) (unsigned_abs (x +ℤ neg_ℤ y)) h k (difference_at_most x y)
  where
    difference_at_most : (x y : ℤ) → unsigned_abs (x +ℤ neg_ℤ y) ≤ unsigned_abs x + unsigned_abs y
    difference_at_most x y = omega (arith, ints)

    for_each : (a b c : ℕ) → a < 2 ^ 126 → b < 2 ^ 126 → c ≤ a + b → c < 2 ^ 127
    for_each a b c h k l = omega (arith, h, k, l)

module _ (m n : ℕ) (t : SimplexTable Rational) (number : ℕ → ℕ → ℤ) (denominator : ℕ → ℕ) (o : IsTableOver m n t number denominator) where
  -- the ratio of a row with an entry above 0
  ratio_fits : (i c p : ℕ) → i ≤ m → c ≤ n + m → 0 < p → number i c ≡ pos p → IsNarrow (ratio rationals m n t c i)
  ratio_fits i c p hi hc hp e = narrow_by (ratio rationals m n t c i) (number i (n + m)) p hp
      (quotient_in_row (t.entry i (n + m)) (t.entry i c) (number i (n + m)) p (denominator i) (o.some i hi) hp (o.named i (n + m) hi (omega arith))
      (subst (λ (z : ℤ). IsRatio (t.entry i c) z (denominator i)) e (o.named i c hi hc)))
      (short_within (number i (n + m)) (o.short i (n + m) hi (omega arith)))
      (short_within (pos p) (subst IsShort e (o.short i c hi hc)))

  -- the numbers of a pivot
  pivot_fits : (r c p : ℕ) → r ≤ m → c ≤ n + m → 0 < p → number r c ≡ pos p → PivotFits m n t r c
  pivot_fits r c p hr hc hp e = record {
    quotients = λ i hi d. quotient_fits i (omega arith);
    entries = λ i j hi d hj. entry_fits i j (omega arith) (omega arith);
    own = λ j hj. narrow_by (Q.times (t.entry r j) (Q.inverse (t.entry r c))) (number r j) p hp
        (quotient_in_row (t.entry r j) (t.entry r c) (number r j) p (denominator r) (o.some r hr) hp (o.named r j hr (omega arith)) own_entry)
        (short_within (number r j) (o.short r j hr (omega arith))) (short_within (pos p) p_short);
  }
    where
      own_entry : IsRatio (t.entry r c) (pos p) (denominator r)
      own_entry = subst (λ (z : ℤ). IsRatio (t.entry r c) z (denominator r)) e (o.named r c hr hc)

      p_short : IsShort (pos p)
      p_short = subst IsShort e (o.short r c hr hc)

      product_above_zero : (i : ℕ) → i ≤ m → 0 < denominator i * p
      product_above_zero i hi = mul-pos (o.some i hi) hp

      over_within : (i : ℕ) → i ≤ m → IsWithin (pos (denominator i * p))
      over_within i hi = half_within (pos (denominator i * p)) (half_product (pos (denominator i)) (pos p) (o.low i hi) p_short)

      quotient_fits : (i : ℕ) → i ≤ m → IsNarrow (Q.times (t.entry i c) (Q.inverse (t.entry r c)))
      quotient_fits i hi = narrow_by (Q.times (t.entry i c) (Q.inverse (t.entry r c))) (number i c *ℤ pos (denominator r))
          (denominator i * p) (product_above_zero i hi)
          (quotient_of_names (t.entry i c) (t.entry r c) (number i c) p (denominator i) (denominator r)
          (o.some i hi) (o.some r hr) hp (o.named i c hi hc) own_entry)
          (half_within (number i c *ℤ pos (denominator r)) (half_product (number i c) (pos (denominator r)) (o.short i c hi hc) (o.low r hr)))
          (over_within i hi)

      entry_fits : (i j : ℕ) → i ≤ m → j ≤ n + m → EntryFits (t.entry i j) (t.entry r j) (Q.times (t.entry i c) (Q.inverse (t.entry r c)))
      entry_fits i j hi hj =
          let product = product_in_row (t.entry r j) (t.entry i c) (t.entry r c) (number r j) (number i c) p (denominator r) (denominator i)
          (o.some r hr) (o.some i hi) hp
          (o.named r j hr hj) (o.named i c hi hc) own_entry in
          let first = half_product (number i j) (pos p) (o.short i j hi hj) p_short in
          let second = half_product (number r j) (number i c) (o.short r j hr hj) (o.short i c hi hc) in
          record {
            product = narrow_by (Q.times (t.entry r j) (Q.times (t.entry i c) (Q.inverse (t.entry r c)))) (number r j *ℤ number i c)
                (denominator i * p) (product_above_zero i hi) product
                (half_within (number r j *ℤ number i c) second) (over_within i hi);
            difference = difference_fits (t.entry i j) (Q.times (t.entry r j) (Q.times (t.entry i c) (Q.inverse (t.entry r c))))
                (number i j *ℤ pos p) (number r j *ℤ number i c) (denominator i * p)
                (product_above_zero i hi) (scaled_name (t.entry i j) (number i j) (denominator i) p (o.named i j hi hj)) product
                (over_within i hi) (half_within (number i j *ℤ pos p) first)
                (half_within (neg_ℤ (number r j *ℤ number i c)) (subst (λ k. k < 2 ^ 126) (sym (size_negated (number r j *ℤ number i c))) second))
                (halves_within (number i j *ℤ pos p) (number r j *ℤ number i c) first second);
          }

  -- the sign of an entry is that of its number
  pub candidate_number : (i c : ℕ) → i ≤ m → c ≤ n + m → is_candidate rationals t c i ≡ true → (p : ℕ) × (0 < p) × (number i c ≡ pos p)
  candidate_number i c hi hc h = by_sign (number i c) refl
    where
      sign : {z : ℤ} → number i c ≡ z → is_at_least_zero (Q.minus (t.entry i c)) ≡ sign_least (neg_ℤ z)
      sign e = sign_named (Q.minus (t.entry i c)) (neg_ℤ (number i c)) (denominator i) (o.some i hi)
          (minus_names (t.entry i c) (number i c) (denominator i) (o.named i c hi hc)) ∙ ap (λ z. sign_least (neg_ℤ z)) e

      by_sign : (z : ℤ) → number i c ≡ z → (p : ℕ) × (0 < p) × (number i c ≡ pos p)
      by_sign (pos zero) e = absurd (true≢false (sym h ∙ ap not (sign e)))
      by_sign (pos (suc p)) e = (suc p, omega arith, e)
      by_sign (negsuc p) e = absurd (true≢false (sym h ∙ ap not (sign e)))

  -- a step isn't wide
  pub step_fits : leaving_row rationals m n t (entering_column rationals m n t) < m → entering_column rationals m n t < n
      → is_candidate rationals t (entering_column rationals m n t) (leaving_row rationals m n t (entering_column rationals m n t)) ≡ true → StepFits m n t
  step_fits hr hc h =
      let c = entering_column rationals m n t in
      let r = leaving_row rationals m n t c in
      let p = candidate_number r c (omega (arith, hr)) (omega (arith, hc)) h in
      record {
        ratios = λ i hi k. let q = candidate_number i c (omega (arith, hi)) (omega (arith, hc)) k
            in ratio_fits i c q.0 (omega (arith, hi)) (omega (arith, hc)) q.1 q.2;
        pivot = pivot_fits r c p.0 (omega (arith, hr)) (omega (arith, hc)) p.1 p.2;
      }
