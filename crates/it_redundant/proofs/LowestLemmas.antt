-- The lowest terms of a row in lowest terms are the row. No premise on the row.
use Rattle.std.proofs.Common.{◌≡◌, ℕ, zero, suc, ◌*◌, ◌/◌, ◌<◌, ℤ, pos, ◌*ℤ◌, unsigned_abs, refl, sym, ap, ap₂, subst, ◌∙◌, arith, one-mul, [], ◌∷◌}
use Rattle.std.proofs.lemmas.Int.{ints}
use Rattle.it_number.specs.Division.{int_quotient}
use Rattle.it_number.proofs.Quotients.{abs-over}
use Rattle.it_number.proofs.SignedDivisors.{over_back}
use Rattle.it_space.specs.Rows.{Terms}
use Rattle.it_space.specs.Divisors.{content, divided_terms, lowest_terms}
use Rattle.it_space.proofs.Contents.{DividesAll, content_divides, content_greatest, times_divides, divided-one}
use Prim.Native.Nat.{◌∣◌}
use native.Mathlib.Nat.{dvd-zero, dvd_of_mul-dvd-mul_right, eq-one_of_dvd-one}

-- a row without values, divided by 0, is itself
divided_zero : (ts : Terms) → DividesAll 0 ts → divided_terms 0 ts ≡ ts
divided_zero [] d = refl
divided_zero (t ∷ ts) d = ap₂ (λ (z : ℤ) (us : Terms). let x : ℕ × ℤ = (t.0, z) in x ∷ us)
    (same_number (int_quotient t.1 0) t.1 (abs-over t.1 0) (over_back t.1 0 d.0)) (divided_zero ts d.1)
  where
    same_number : (q z : ℤ) → unsigned_abs q ≡ unsigned_abs z / 0 → q *ℤ pos 0 ≡ z → q ≡ z
    same_number q z a e = omega (arith, ints)

-- a row divided by its common divisor has none above 1
content_of_divided : (ts : Terms) → 0 < content 0 ts → content 0 (divided_terms (content 0 ts) ts) ≡ 1
content_of_divided ts some =
    let k : ℕ = content 0 ts in
    let j : ℕ = content 0 (divided_terms k ts) in
    let both : j * k ∣ k = content_greatest (j * k) 0 ts (dvd-zero (j * k))
    (times_divides j k ts (content_divides 0 ts).1 (content_divides 0 (divided_terms k ts)).1) in
    eq-one_of_dvd-one (dvd_of_mul-dvd-mul_right {k = k} j some (subst (λ n. j * k ∣ n) (sym (one-mul k)) both))

pub lowest_again : (ts : Terms) → lowest_terms (lowest_terms ts) ≡ lowest_terms ts
unfolding lowest_terms
lowest_again ts = for_each (content 0 ts) refl
  where
    for_each : (k : ℕ) → content 0 ts ≡ k → divided_terms (content 0 (divided_terms (content 0 ts) ts)) (divided_terms (content 0 ts) ts)
        ≡ divided_terms (content 0 ts) ts
    for_each zero e =
        let same : divided_terms (content 0 ts) ts ≡ ts = ap (λ k. divided_terms k ts) e
        ∙ divided_zero ts (subst (λ k. DividesAll k ts) e (content_divides 0 ts).1) in
        ap (λ us. divided_terms (content 0 us) us) same
    for_each (suc k) e = ap (λ j. divided_terms j (divided_terms (content 0 ts) ts)) (content_of_divided ts (omega arith))
        ∙ divided-one (divided_terms (content 0 ts) ts)
