use Rattle.std.proofs.Common.{rules, ◌≡◌, ◌∙◌, ℕ, suc, ◌<◌, ℤ, pos, negsuc, neg_ℤ, ◌≤ℤ◌, unsigned_abs, sym, ap, subst, FitsSigned, to_z-of_z, w64, arith}
use Rattle.std.proofs.Math.Nat.{div_self, div-one, one-dvd}
use Rattle.std.proofs.lemmas.Int.{ints}
use Rattle.std.proofs.lemmas.Nat.Gcd.{dvd_of_mod-eq-zero, dvd_refl, same_from_IsGcd}
use Rattle.it_number.specs.Division.{int_quotient}
use Rattle.it_number.specs.Gcd.{gcd}
use Rattle.it_number.proofs.Divisors.{gcd_is, one-gcd}
use Rattle.it_vectors.proofs.arithmetic.lowest_terms.Goals as goal
use Rattle.it_vectors.proofs.arithmetic.lowest_terms.Goals.{After-unsigned_abs-size}
use Prim.Native.Nat.{◌∣◌}

gcd_of_divisor : (a b : ℕ) → a ∣ b → gcd a b ≡ a
gcd_of_divisor a b d = same_from_IsGcd a b (gcd a b) a (gcd_is a b) (dvd_refl a, d, λ k p q. p)

quotient_by_itself : (z : ℤ) → pos 1 ≤ℤ z → int_quotient z (unsigned_abs z) ≡ pos 1
quotient_by_itself (pos n) h = let l : 0 < n = omega (arith, ints, h) in ap pos (div_self l)
quotient_by_itself (negsuc n) h = absurd (omega (arith, ints, h))

quotient_by_one : (z : ℤ) → int_quotient z 1 ≡ z
quotient_by_one (pos n) = ap pos (div-one n)
quotient_by_one (negsuc n) = ap (λ k. neg_ℤ (pos k)) (div-one (suc n))

-- a divisor of the entry is the greatest common one, and by it the pivot is 1
pivot_over_divisor : (pivot : ℤ) (entry size : ℕ) → pos 1 ≤ℤ pivot → size ≡ unsigned_abs pivot → size ∣ entry
    → pos 1 ≡ int_quotient pivot (gcd (unsigned_abs pivot) entry)
pivot_over_divisor pivot entry size h e d = sym (quotient_by_itself pivot h)
    ∙ ap (int_quotient pivot) (sym (gcd_of_divisor (unsigned_abs pivot) entry (subst (λ (k : ℕ). k ∣ entry) e d)))

size_is : (c : After-unsigned_abs-size) → c.unsigned_abs-size.result ≡ unsigned_abs c.args.pivot
size_is c =
    let f : FitsSigned w64 c.args.pivot = c.ranges.pivot in
    c.unsigned_abs-size.ensures.value ∙ ap unsigned_abs (to_z-of_z f)

pub returns-then-size-eq1-clause-pivot : goal.returns-then-size-eq1-clause-pivot
returns-then-size-eq1-clause-pivot c =
    pivot_over_divisor c.args.pivot (unsigned_abs c.args.entry) c.unsigned_abs-size.result c.requires.pivot
    (size_is (goal.at.returns-then-size-eq1-clause-pivot c).After-unsigned_abs-size)
    (subst (λ (k : ℕ). k ∣ unsigned_abs c.args.entry) (sym c.if-size-eq1.true) (one-dvd (unsigned_abs c.args.entry)))

pub returns-then-size-eq1-clause-entry : goal.returns-then-size-eq1-clause-entry
returns-then-size-eq1-clause-entry c =
    let f : FitsSigned w64 c.args.entry = c.ranges.entry in
    to_z-of_z f ∙ sym (quotient_by_one c.args.entry)
    ∙ ap (int_quotient c.args.entry) (sym (ap (λ k. gcd k (unsigned_abs c.args.entry))
    (sym (size_is (goal.at.returns-then-size-eq1-clause-entry c).After-unsigned_abs-size) ∙ c.if-size-eq1.true)
    ∙ one-gcd (unsigned_abs c.args.entry)))

pub returns-then-unsigned_abs-size-eq0-clause-pivot : goal.returns-then-unsigned_abs-size-eq0-clause-pivot
returns-then-unsigned_abs-size-eq0-clause-pivot c =
    let f : FitsSigned w64 c.args.entry = c.ranges.entry in
    let s = size_is (goal.at.returns-then-unsigned_abs-size-eq0-clause-pivot c).After-unsigned_abs-size in
    let e : c.unsigned_abs.result ≡ unsigned_abs c.args.entry = c.unsigned_abs.ensures.value ∙ ap unsigned_abs (to_z-of_z f) in
    pivot_over_divisor c.args.pivot (unsigned_abs c.args.entry) c.unsigned_abs-size.result c.requires.pivot s
    (subst (λ (k : ℕ). c.unsigned_abs-size.result ∣ k) e (dvd_of_mod-eq-zero c.unsigned_abs-size.result
    c.if-unsigned_abs-size-eq0.true))

pub returns-then-unsigned_abs-size-eq0-clause-entry : goal.returns-then-unsigned_abs-size-eq0-clause-entry
returns-then-unsigned_abs-size-eq0-clause-entry c =
    let f : FitsSigned w64 c.args.entry = c.ranges.entry in
    let g : FitsSigned w64 c.quotient.result = search rules in
    let s = size_is (goal.at.returns-then-unsigned_abs-size-eq0-clause-entry c).After-unsigned_abs-size in
    let e : c.unsigned_abs.result ≡ unsigned_abs c.args.entry = c.unsigned_abs.ensures.value ∙ ap unsigned_abs (to_z-of_z f) in
    let d : c.unsigned_abs-size.result ∣ unsigned_abs c.args.entry = subst (λ (k : ℕ). c.unsigned_abs-size.result ∣ k) e
    (dvd_of_mod-eq-zero c.unsigned_abs-size.result c.if-unsigned_abs-size-eq0.true) in
    to_z-of_z g ∙ c.quotient.ensures ∙ ap (λ z. int_quotient z c.unsigned_abs-size.result) (to_z-of_z f)
    ∙ ap (int_quotient c.args.entry) (sym (gcd_of_divisor c.unsigned_abs-size.result (unsigned_abs c.args.entry) d)
    ∙ ap (λ k. gcd k (unsigned_abs c.args.entry)) s)
