-- A rational number that is n / d has parts no larger than n and d; and what a sum of two over one denominator forms.
use Rattle.std.proofs.Common.{◌≡◌, ℕ, zero, suc, ◌*◌, ◌/◌, ◌<◌, ◌≤◌, ℤ, pos, ◌+ℤ◌, ◌*ℤ◌, neg_ℤ, unsigned_abs, sym, ap, subst, ◌∙◌, arith}
use Rattle.std.proofs.lemmas.Int.{unsigned_abs-mul}
use Rattle.std.proofs.lemmas.Nat.{mul-le}
use Rattle.std.proofs.lemmas.Nat.Gcd.{IsGcd-swap}
use Rattle.std.specs.Int.{IsGcd}
use Rattle.std.proofs.Math.Nat.{le-mul_of_pos_right, mul_comm, mul_assoc}
use Rattle.it_number.specs.Gcd.{gcd, lcm}
use Rattle.it_number.specs.Limit.{IsWithin}
use Rattle.it_number.specs.Laws.{IsLcm}
use Rattle.it_number.proofs.Divisors.{euclid, gcd_is, lcm_is, lcm-over}
use Rattle.it_number.proofs.Integers.{zring}
use Rattle.it_rational.specs.Rational.{Rational, IsRatio}
use Rattle.it_rational.specs.Rational as Q
use Rattle.it_rational.proofs.Names.{cancel_factor}
use Rattle.it_whole.proofs.Names.{minus_names, factors_join}
use Rattle.it_fraction.specs.Fits.{IsNarrow, PartsFit, DifferenceFits, common_numerator, shared_rest}
use Prim.Native.Nat.{◌∣◌}
use native.Mathlib.Nat.{dvd-mul_left, le_of_dvd, div-mul_cancel, mul-div_cancel', le_of_mul-le-mul_right, eq_of_mul-eq-mul_left, div-le_self}

at_most_itself : (k : ℕ) → k ≤ k
at_most_itself k = omega arith

pub parts_below : (q : Rational) (n : ℤ) (d : ℕ) → 0 < d → IsRatio q n d → (unsigned_abs q.num ≤ unsigned_abs n) × (q.den ∣ d)
parts_below q n d h e =
    let x : unsigned_abs q.num * d ≡ unsigned_abs n * q.den = sym (unsigned_abs-mul q.num (pos d)) ∙ ap unsigned_abs e ∙ unsigned_abs-mul n (pos q.den) in
    let div : q.den ∣ d = euclid q.den (unsigned_abs q.num) d (IsGcd-swap (unsigned_abs q.num) q.den 1 q.lowest)
    (subst (λ k. q.den ∣ k) (sym x) (dvd-mul_left q.den (unsigned_abs n))) in
    let y : unsigned_abs q.num * d ≤ unsigned_abs n * d = subst (λ k. k ≤ unsigned_abs n * d) (sym x)
    (mul-le (unsigned_abs n) q.den (unsigned_abs n) d (at_most_itself (unsigned_abs n)) (le_of_dvd h div)) in
    (le_of_mul-le-mul_right y h, div)

pub narrow_by : (q : Rational) (n : ℤ) (d : ℕ) → 0 < d → IsRatio q n d → IsWithin n → IsWithin (pos d) → IsNarrow q
narrow_by q n d h e wn wd = let p = parts_below q n d h e in (omega (arith, p.0, wn), omega (arith, le_of_dvd h p.1, wd))

-- a number is within the limit where a multiple of it is
pub within_part : (x y : ℤ) (k : ℕ) → 0 < k → x *ℤ pos k ≡ y → IsWithin y → IsWithin x
within_part x y k h e w =
    let a : unsigned_abs x * k ≡ unsigned_abs y = sym (unsigned_abs-mul x (pos k)) ∙ ap unsigned_abs e in
    omega (arith, a, w, le-mul_of_pos_right (unsigned_abs x) h)

-- the sum of a / b and c / d, where l is a multiple of both denominators and within the limit, and what stands over it is too
pub parts_fit : (a c : ℤ) (b d u w l : ℕ) → 0 < b → 0 < d → 0 < l → b * u ≡ l → d * w ≡ l
    → IsWithin (pos l) → IsWithin (a *ℤ pos u) → IsWithin (c *ℤ pos w) → IsWithin (a *ℤ pos u +ℤ c *ℤ pos w) → PartsFit a b c d
parts_fit a c b d u w l hb hd hl eu ew wl wa wc wt = record {
  left = within_part (a *ℤ pos (d / shared_divisor)) (a *ℤ pos u) other_factor other_factor_some
      (factors_join a (d / shared_divisor) other_factor ∙ ap (λ k. a *ℤ pos k) u_is) wa;
  right = within_part (c *ℤ pos (b / shared_divisor)) (c *ℤ pos w) other_factor other_factor_some
      (factors_join c (b / shared_divisor) other_factor ∙ ap (λ k. c *ℤ pos k) w_is) wc;
  total = within_part (common_numerator a b c d) (a *ℤ pos u +ℤ c *ℤ pos w) other_factor other_factor_some
      (factor_moves_in a c (d / shared_divisor) (b / shared_divisor) other_factor
      ∙ ap (λ k. a *ℤ pos k +ℤ c *ℤ pos (b / shared_divisor * other_factor)) u_is ∙ ap (λ k. a *ℤ pos u +ℤ c *ℤ pos k) w_is) wt;
  denominator = denominator_is_within (b / shared_divisor * (d / shared_rest a b c d))
      (mul-le (b / shared_divisor) (d / shared_rest a b c d) (b / shared_divisor) d (at_most_itself (b / shared_divisor))
      (div-le_self d (shared_rest a b c d)));
}
  where
    shared_divisor : ℕ
    shared_divisor = gcd b d

    divisor_is_greatest : IsGcd b d (gcd b d)
    divisor_is_greatest = gcd_is b d

    common : IsLcm b d (lcm b d)
    common = lcm_is b d

    other_factor : ℕ
    other_factor = l / lcm b d

    multiple_divides : lcm b d ∣ l
    multiple_divides = common.2 l (subst (λ k. b ∣ k) (mul_comm u b ∙ eu) (dvd-mul_left b u)) (subst (λ k. d ∣ k) (mul_comm w d ∙ ew) (dvd-mul_left d w))

    product_is_whole : lcm b d * other_factor ≡ l
    product_is_whole = mul-div_cancel' (lcm b d) multiple_divides

    other_factor_some : 0 < other_factor
    other_factor_some = factor_some other_factor product_is_whole
      where
        factor_some : (other_factor : ℕ) → lcm b d * other_factor ≡ l → 0 < other_factor
        factor_some zero e = omega (arith, e, hl)
        factor_some (suc other_factor) e = omega arith

    factor_moves_in : (x y : ℤ) (m n k : ℕ) → (x *ℤ pos m +ℤ y *ℤ pos n) *ℤ pos k ≡ x *ℤ pos (m * k) +ℤ y *ℤ pos (n * k)
    factor_moves_in x y m n k = omega (arith, zring)

    -- b (d / g) is the least common multiple
    over_left : b * (d / shared_divisor) ≡ lcm b d
    over_left = lcm-over b d

    over_right : d * (b / shared_divisor) ≡ lcm b d
    over_right = products_agree b d (b / shared_divisor) (d / shared_divisor) shared_divisor
        (div-mul_cancel shared_divisor divisor_is_greatest.0) (div-mul_cancel shared_divisor divisor_is_greatest.1) ∙ over_left
      where
        products_agree : (b d x y shared_divisor : ℕ) → x * shared_divisor ≡ b → y * shared_divisor ≡ d → d * x ≡ b * y
        products_agree b d x y shared_divisor e f = rw (← e, ← f) (omega arith)

    u_is : d / shared_divisor * other_factor ≡ u
    u_is = eq_of_mul-eq-mul_left b hb (d / shared_divisor * other_factor) u
        (sym (mul_assoc b (d / shared_divisor) other_factor) ∙ ap (λ k. k * other_factor) over_left ∙ product_is_whole ∙ sym eu)

    w_is : b / shared_divisor * other_factor ≡ w
    w_is = eq_of_mul-eq-mul_left d hd (b / shared_divisor * other_factor) w
        (sym (mul_assoc d (b / shared_divisor) other_factor) ∙ ap (λ k. k * other_factor) over_right ∙ product_is_whole ∙ sym ew)

    denominator_is_within : (k : ℕ) → k ≤ b / shared_divisor * d → IsWithin (pos k)
    denominator_is_within k h = omega (arith, h, mul_comm (b / shared_divisor) d ∙ over_right, le_of_dvd hl multiple_divides, wl)

-- a number that is n / l over its own denominator
own_over : (q : Rational) (n : ℤ) (u l : ℕ) → IsRatio q n l → q.den * u ≡ l → q.num *ℤ pos u ≡ n
own_over q n u l e f = cancel_factor (q.num *ℤ pos u) n q.den q.positive (product_regroups q.num u q.den ∙ ap (λ k. q.num *ℤ pos k) f ∙ e)
  where
    product_regroups : (x : ℤ) (u d : ℕ) → (x *ℤ pos u) *ℤ pos d ≡ x *ℤ pos (d * u)
    product_regroups x u d = omega (arith, zring)

-- the difference of n / l and k / l
pub difference_fits : (x y : Rational) (n k : ℤ) (l : ℕ) → 0 < l → IsRatio x n l → IsRatio y k l
    → IsWithin (pos l) → IsWithin n → IsWithin (neg_ℤ k) → IsWithin (n +ℤ neg_ℤ k) → DifferenceFits x y
difference_fits x y n k l h ex ey wl wn wk wt =
    let m : IsRatio (Q.minus y) (neg_ℤ k) l = minus_names y k l ey in
    let px = parts_below x n l h ex in
    let py = parts_below (Q.minus y) (neg_ℤ k) l h m in
    let fx : x.den * (l / x.den) ≡ l = mul-div_cancel' x.den px.1 in
    let fy : (Q.minus y).den * (l / (Q.minus y).den) ≡ l = mul-div_cancel' (Q.minus y).den py.1 in
    let ox = own_over x n (l / x.den) l ex fx in
    let oy = own_over (Q.minus y) (neg_ℤ k) (l / (Q.minus y).den) l m fy in
    parts_fit x.num (Q.minus y).num x.den (Q.minus y).den (l / x.den) (l / (Q.minus y).den) l x.positive (Q.minus y).positive h fx fy wl
    (subst IsWithin (sym ox) wn) (subst IsWithin (sym oy) wk) (rw (ox, oy) wt)
