-- Divisors of whole numbers with a sign, and the parts of a sum of fractions.
use Rattle.std.proofs.Common.{◌≡◌, ℕ, ◌*◌, ◌/◌, ◌<◌, ℤ, pos, negsuc, ◌+ℤ◌, ◌-ℤ◌, ◌*ℤ◌, unsigned_abs, sym, ap, subst, ◌∙◌, arith}
use Rattle.std.proofs.lemmas.Int.{ints, unsigned_abs-mul}
use Rattle.std.specs.Int.{IsGcd}
use Rattle.it_number.proofs.Integers.{zring}
use Rattle.it_number.proofs.Divisors.{euclid, IsGcd-pos, coprime_below, coprime_product, coprime_rest}
use Rattle.it_number.specs.Division.{int_quotient}
use Rattle.it_number.proofs.Quotients.{abs-over}
use Rattle.std.proofs.lemmas.Nat.Gcd.{IsGcd-swap, dvd_refl, dvd_trans}
use Prim.Native.Nat.{◌∣◌}
use native.Mathlib.Nat.{dvd-mul_left, dvd-mul_left_of_dvd, dvd-mul_right_of_dvd, one-dvd, div-mul_cancel}

-- z over k, back
pub over_back : (n : ℤ) (g : ℕ) → g ∣ unsigned_abs n → int_quotient n g *ℤ pos g ≡ n
over_back (pos n) g h = ap pos (div-mul_cancel g h)
over_back (negsuc n) g h = omega (arith, ints, zring, div-mul_cancel g h)

-- a divisor of a multiple's factor
of_multiple : (k : ℕ) (z q : ℤ) → q *ℤ pos k ≡ z → k ∣ unsigned_abs z
of_multiple k z q e = subst (λ n. k ∣ n) (sym (unsigned_abs-mul q (pos k)) ∙ ap unsigned_abs e) (dvd-mul_left k (unsigned_abs q))

pub divides_rest_left : (k : ℕ) (x y : ℤ) → k ∣ unsigned_abs (x +ℤ y) → k ∣ unsigned_abs y → k ∣ unsigned_abs x
divides_rest_left k x y h g = of_multiple k x (int_quotient (x +ℤ y) k -ℤ int_quotient y k) (omega (arith, zring, over_back (x +ℤ y) k h, over_back y k g))

-- a times d' plus c times b', where a is apart from b, c from d, b' from d': the sum is apart from b'
apart_one : (a c : ℤ) (b b' d' : ℕ) → IsGcd (unsigned_abs a) b 1 → b' ∣ b → IsGcd b' d' 1 → IsGcd (unsigned_abs (a *ℤ pos d' +ℤ c *ℤ pos b')) b' 1
apart_one a c b b' d' ab bb bd = (
  one-dvd (unsigned_abs (a *ℤ pos d' +ℤ c *ℤ pos b')),
  one-dvd b',
  λ k p q.
      let left : k ∣ unsigned_abs (a *ℤ pos d') = divides_rest_left k (a *ℤ pos d') (c *ℤ pos b') p
      (subst (λ n. k ∣ n) (sym (unsigned_abs-mul c (pos b'))) (dvd-mul_left_of_dvd k q (unsigned_abs c))) in
      let kd : k ∣ d' = euclid k (unsigned_abs a) d' (IsGcd-swap (unsigned_abs a) k 1
      (coprime_below (unsigned_abs a) b (unsigned_abs a) k ab (dvd_refl (unsigned_abs a)) (dvd_trans k q bb)))
      (subst (λ n. k ∣ n) (unsigned_abs-mul a (pos d')) left) in
      bd.2 k q kd,
)

-- a sum over the shared part is in lowest terms
pub sum_lowest : (a c : ℤ) (b d g b' d' g' : ℕ) → 0 < d → IsGcd (unsigned_abs a) b 1 → IsGcd (unsigned_abs c) d 1 → IsGcd b d g → b' ≡ b / g → d' ≡ d / g
    → (t : ℤ) → t ≡ a *ℤ pos d' +ℤ c *ℤ pos b' → IsGcd (unsigned_abs t) g g' → IsGcd (unsigned_abs (int_quotient t g')) (b' * (d / g')) 1
sum_lowest a c b d g b' d' g' hd ab cd is eb ed t et it =
    let some : 0 < g = IsGcd-pos b d g hd is in
    let some' : 0 < g' = IsGcd-pos (unsigned_abs t) g g' some it in
    let bd : IsGcd b' d' 1 = rw (eb, ed) (coprime_rest b d g some is) in
    let bb : b' ∣ b = rw eb (subst (λ n. b / g ∣ n) (div-mul_cancel g is.0) (dvd-mul_right_of_dvd (b / g) (dvd_refl (b / g)) g)) in
    let dd : d' ∣ d = rw ed (subst (λ n. d / g ∣ n) (div-mul_cancel g is.1) (dvd-mul_right_of_dvd (d / g) (dvd_refl (d / g)) g)) in
    let tb : IsGcd (unsigned_abs t) b' 1 = rw et (apart_one a c b b' d' ab bb bd) in
    let turned : t ≡ c *ℤ pos b' +ℤ a *ℤ pos d' = et ∙ swap (a *ℤ pos d') (c *ℤ pos b') in
    let td : IsGcd (unsigned_abs t) d' 1 = rw turned (apart_one c a d d' b' cd dd (IsGcd-swap b' d' 1 bd)) in
    let r : ℕ = unsigned_abs t / g' in
    let rt : r ∣ unsigned_abs t = subst (λ n. r ∣ n) (div-mul_cancel g' it.0) (dvd-mul_right_of_dvd r (dvd_refl r) g') in
    let rg : IsGcd r (g / g') 1 = coprime_rest (unsigned_abs t) g g' some' it in
    let split : d / g' ≡ (g / g') * d' = rest_divides (g / g') (div-mul_cancel g' it.1) some' (ap (λ n. n * g) ed ∙ div-mul_cancel g is.1) in
    rw (abs-over t g', split) (IsGcd-swap (b' * ((g / g') * d')) r 1 (coprime_product b' ((g / g') * d') r
    (IsGcd-swap r b' 1 (coprime_below (unsigned_abs t) b' r b' tb rt (dvd_refl b')))
    (coprime_product (g / g') d' r (IsGcd-swap r (g / g') 1 rg) (IsGcd-swap r d' 1 (coprime_below (unsigned_abs t) d' r d' td rt (dvd_refl d'))))))
  where
    swap : (x y : ℤ) → x +ℤ y ≡ y +ℤ x
    swap x y = omega (arith, ints)

    rest_divides : (h : ℕ) → h * g' ≡ g → 0 < g' → d' * g ≡ d → d / g' ≡ h * d'
    rest_divides h e s f = native.Mathlib.Nat.div-eq_of_eq-mul_left s (sym f ∙ ap (λ n. d' * n) (sym e) ∙ swap_first_factors d' h g')
      where
        swap_first_factors : (x y z : ℕ) → x * (y * z) ≡ y * x * z
        swap_first_factors x y z = omega arith
