-- The order of the rational numbers is total, and ties are equal.
use Rattle.std.proofs.Common.{◌≡◌, ℕ, zero, suc, ◌<◌, ℤ, pos, negsuc, ◌+ℤ◌, ◌-ℤ◌, ◌*ℤ◌, ◌<ℤ◌, [], ◌∷◌, refl, ap, subst, arith, int_cmp, Ordering, Less, Equal, ◌≢◌, sym, ◌∙◌, Greater, Bool, true, false}
use Rattle.std.proofs.lemmas.Int.{ints}
use Rattle.std.specs.Cmp.{IsTotalOrder, int_ranks, int_cmp_total, int_cmp_is}
use Rattle.it_number.proofs.Integers.{zring}
use Rattle.std.specs.Ordering.{MatchOrdering, is_eq}
use Rattle.it_number.proofs.Ring.{ring, v, plus, times, minus}
use Rattle.it_number.proofs.IntegerRing.{ring_ℤ}
use Rattle.it_rational.specs.Rational.{Rational, rational_cmp}
use Rattle.it_rational.proofs.Names.{same_across}

-- a product of numbers above 0
pub product_above : (a b : ℤ) → pos 0 <ℤ a → pos 0 <ℤ b → pos 0 <ℤ (a *ℤ b)
product_above (pos (suc a)) (pos (suc b)) h k = omega (arith, ints)
product_above (pos zero) b h k = absurd (omega (arith, ints))
product_above (pos (suc a)) (pos zero) h k = absurd (omega (arith, ints))
product_above (pos (suc a)) (negsuc b) h k = absurd (omega (arith, ints))
product_above (negsuc a) b h k = absurd (omega (arith, ints))

uncancel_above : (k x : ℤ) → pos 0 <ℤ k → pos 0 <ℤ (k *ℤ x) → pos 0 <ℤ x
uncancel_above (pos k) (pos (suc x)) h g = omega (arith, ints)
uncancel_above (pos k) (pos zero) h g = absurd (omega (arith, ints))
uncancel_above (pos zero) (negsuc x) h g = absurd (omega (arith, ints))
uncancel_above (pos (suc k)) (negsuc x) h g = absurd (omega (arith, ints))
uncancel_above (negsuc k) x h g = absurd (omega (arith, ints))

less_of : (a b : ℤ) → int_cmp a b ≡ Less → a <ℤ b
less_of a b e = subst (λ (r : Ordering). MatchOrdering r (a <ℤ b) (a ≡ b) (b <ℤ a)) e (int_ranks a b)

equal_of : (a b : ℤ) → int_cmp a b ≡ Equal → a ≡ b
equal_of a b e = subst (λ (r : Ordering). MatchOrdering r (a <ℤ b) (a ≡ b) (b <ℤ a)) e (int_ranks a b)

less_is : (a b : ℤ) → a <ℤ b → int_cmp a b ≡ Less
less_is a b h = grind (arith, ints)

chain : (xn xd yn yd zn zd : ℤ) → pos 0 <ℤ xd → pos 0 <ℤ yd → pos 0 <ℤ zd → (xn *ℤ yd) <ℤ (yn *ℤ xd) → (yn *ℤ zd) <ℤ (zn *ℤ yd) → (xn *ℤ zd) <ℤ (zn *ℤ xd)
chain xn xd yn yd zn zd hx hy hz p q =
    let one : pos 0 <ℤ (zd *ℤ (yn *ℤ xd -ℤ xn *ℤ yd)) = product_above zd (yn *ℤ xd -ℤ xn *ℤ yd) hz (omega (arith, ints, p)) in
    let two : pos 0 <ℤ (xd *ℤ (zn *ℤ yd -ℤ yn *ℤ zd)) = product_above xd (zn *ℤ yd -ℤ yn *ℤ zd) hx (omega (arith, ints, q)) in
    let law : zd *ℤ (yn *ℤ xd -ℤ xn *ℤ yd) +ℤ xd *ℤ (zn *ℤ yd -ℤ yn *ℤ zd) ≡ yd *ℤ (zn *ℤ xd -ℤ xn *ℤ zd) =
    ring ring_ℤ (xn ∷ xd ∷ yn ∷ yd ∷ zn ∷ zd ∷ [])
    (plus (times (v 5) (plus (times (v 2) (v 1)) (minus (times (v 0) (v 3))))) (times (v 1) (plus (times (v 4) (v 3)) (minus (times (v 2) (v 5))))))
    (times (v 3) (plus (times (v 4) (v 1)) (minus (times (v 0) (v 5))))) refl in
    less_by_difference (xn *ℤ zd) (zn *ℤ xd) (uncancel_above yd (zn *ℤ xd -ℤ xn *ℤ zd) hy
    (subst (λ (s : ℤ). pos 0 <ℤ s) law (sum_above (zd *ℤ (yn *ℤ xd -ℤ xn *ℤ yd)) (xd *ℤ (zn *ℤ yd -ℤ yn *ℤ zd)) one two)))
  where
    sum_above : (s t : ℤ) → pos 0 <ℤ s → pos 0 <ℤ t → pos 0 <ℤ (s +ℤ t)
    sum_above s t h k = omega (arith, ints)

    less_by_difference : (s t : ℤ) → pos 0 <ℤ (t -ℤ s) → s <ℤ t
    less_by_difference s t h = omega (arith, ints)

above_zero : (d : ℕ) → 0 < d → pos 0 <ℤ pos d
above_zero d h = omega (arith, ints)

pub equal_by_comparison : (x y : Rational) → rational_cmp x y ≡ Equal → x ≡ y
equal_by_comparison x y e = same_across x y (equal_of (x.num *ℤ pos y.den) (y.num *ℤ pos x.den) e)

pub rational_total : IsTotalOrder rational_cmp
rational_total = record {
  antisymm = λ x y. int_cmp_total.antisymm (x.num *ℤ pos y.den) (y.num *ℤ pos x.den);
  trans = λ x y z p q. less_is (x.num *ℤ pos z.den) (z.num *ℤ pos x.den)
      (chain x.num (pos x.den) y.num (pos y.den) z.num (pos z.den) (above_zero x.den x.positive) (above_zero y.den y.positive) (above_zero z.den z.positive)
      (less_of (x.num *ℤ pos y.den) (y.num *ℤ pos x.den) p) (less_of (y.num *ℤ pos z.den) (z.num *ℤ pos y.den) q));
  congr = λ x y z e. ap (λ w. rational_cmp w z) (equal_by_comparison x y e);
}

-- over one denominator the numerators decide
pub rational_cmp-same_den : (x y : Rational) → x.den ≡ y.den → int_cmp x.num y.num ≡ rational_cmp x y
rational_cmp-same_den x y e = int_cmp_is (x.num *ℤ pos y.den) (y.num *ℤ pos x.den) (int_cmp x.num y.num)
    (subst (λ (d : ℕ). MatchOrdering (int_cmp x.num y.num) ((x.num *ℤ pos y.den) <ℤ (y.num *ℤ pos d)) (x.num *ℤ pos y.den ≡ y.num *ℤ pos d)
    ((y.num *ℤ pos d) <ℤ (x.num *ℤ pos y.den))) (sym e)
    (by_ordering x.num y.num (pos y.den) (above_zero y.den y.positive) (int_cmp x.num y.num) (int_ranks x.num y.num)))
  where
    product_rises : (a b d : ℤ) → pos 0 <ℤ d → a <ℤ b → (a *ℤ d) <ℤ (b *ℤ d)
    product_rises a b d h k = let p = product_above d (b -ℤ a) h (omega (arith, ints, k)) in omega (arith, zring, p)

    by_ordering : (a b d : ℤ) → pos 0 <ℤ d → (r : Ordering) → MatchOrdering r (a <ℤ b) (a ≡ b) (b <ℤ a)
        → MatchOrdering r ((a *ℤ d) <ℤ (b *ℤ d)) (a *ℤ d ≡ b *ℤ d) ((b *ℤ d) <ℤ (a *ℤ d))
    by_ordering a b d h Less k = product_rises a b d h k
    by_ordering a b d h Equal k = ap (λ (z : ℤ). z *ℤ d) k
    by_ordering a b d h Greater k = product_rises b a d h k

-- a test for equal numbers agrees with the order
pub is_eq-rational_cmp : (b : Bool) (x y : Rational) → (b ≡ true → x ≡ y) → (b ≡ false → x ≢ y) → b ≡ is_eq (rational_cmp x y)
is_eq-rational_cmp true x y f g = sym (ap (λ (q : Rational). is_eq (rational_cmp x q)) (sym (f refl))
    ∙ ap is_eq (sym (int_cmp_is (x.num *ℤ pos x.den) (x.num *ℤ pos x.den) Equal refl)))
is_eq-rational_cmp false x y f g = by_order (rational_cmp x y) refl
  where
    by_order : (r : Ordering) → rational_cmp x y ≡ r → false ≡ is_eq r
    by_order Less e = refl
    by_order Equal e = absurd (g refl (equal_by_comparison x y e))
    by_order Greater e = refl
