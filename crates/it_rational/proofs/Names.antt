-- Equality of rational numbers: two in lowest terms that are equal across are one. A rational `q` is named by n and d where it is n / d.
use Rattle.std.proofs.Common.{◌≡◌, ℕ, zero, suc, ◌+◌, ◌*◌, ◌/◌, ◌<◌, ℤ, pos, ◌+ℤ◌, ◌*ℤ◌, unsigned_abs, List, [], ◌∷◌, refl, sym, ap, ap₂, subst, ◌∙◌, arith, mul-pos}
use Rattle.std.proofs.lemmas.Int.{ints, unsigned_abs-mul}
use Rattle.std.specs.Int.{IsGcd}
use Rattle.it_number.specs.Gcd.{gcd}
use Rattle.it_rational.specs.Rational.{Rational, quotient, IsRatio}
use Rattle.it_rational.specs.Rational as Q
use Rattle.it_number.proofs.Integers.{zring}
use Rattle.it_number.proofs.Ring.{ring, v, plus, times}
use Rattle.it_number.proofs.IntegerRing.{ring_ℤ}
use Rattle.it_number.proofs.Divisors.{lowest_unique, gcd_is}
use Rattle.it_number.proofs.SignedDivisors.{over_back}
use Rattle.it_number.specs.Division.{int_quotient}
use native.Mathlib.Bridge.{le_prop}
use native.Mathlib.Nat.{div-mul_cancel, ∣_prop, eq_of_mul-eq-mul_right}
use borrow.Author.Differences.{up, down, same_in}

cross_products : (N n : ℤ) (D g d : ℕ) → N *ℤ pos g ≡ n → D * g ≡ d → N *ℤ pos d ≡ n *ℤ pos D
cross_products N n D g d e f = rw (← e, ← f) (omega (arith, zring))

pub quotient_names : (n : ℤ) (d : ℕ) → 0 < d → IsRatio (quotient n d) n d
unfolding quotient
quotient_names n zero h = absurd (omega arith)
quotient_names n (suc d) h =
    let g : ℕ = gcd (unsigned_abs n) (suc d) in
    let is : IsGcd (unsigned_abs n) (suc d) g = gcd_is (unsigned_abs n) (suc d) in
    cross_products (int_quotient n g) n (suc d / g) g (suc d) (over_back n g is.0) (div-mul_cancel g is.1)

-- a factor above 0 cancels
pub cancel_factor : (a b : ℤ) (d : ℕ) → 0 < d → a *ℤ pos d ≡ b *ℤ pos d → a ≡ b
cancel_factor a b d h e = same_in a b (eq_of_mul-eq-mul_right d h (up a + down b) (up b + down a) (omega (arith, ints, e)))

-- the parts decide
abbrev rational_of : (n : ℤ) (d : ℕ) → 0 < d → IsGcd (unsigned_abs n) d 1 → Rational
rational_of n d p l = record { num = n; den = d; positive = p; lowest = l }

gcd_prop : (a b g : ℕ) → IsProp (IsGcd a b g)
gcd_prop a b g = hlevel ∣_prop

same_made : (n m : ℤ) (d k : ℕ) → n ≡ m → d ≡ k → (p : 0 < d) (l : IsGcd (unsigned_abs n) d 1) (r : 0 < k) (s : IsGcd (unsigned_abs m) k 1)
    → rational_of n d p l ≡ rational_of m k r s
same_made n m d k e f p l =
    let P : ℤ → ℕ → Type 0 = λ m k. (r : 0 < k) (s : IsGcd (unsigned_abs m) k 1) → rational_of n d p l ≡ rational_of m k r s in
    subst (λ (k : ℕ). P m k) f (subst (λ (m : ℤ). P m d) e (λ r s. ap₂ (rational_of n d) (le_prop p r) (gcd_prop (unsigned_abs n) d 1 l s)))

pub same_parts : (a b : Rational) → a.num ≡ b.num → a.den ≡ b.den → a ≡ b
same_parts a b e f = same_made a.num b.num a.den b.den e f a.positive a.lowest b.positive b.lowest

abs_cross : (a b : ℤ) (x y : ℕ) → a *ℤ pos x ≡ b *ℤ pos y → unsigned_abs a * x ≡ unsigned_abs b * y
abs_cross a b x y e = sym (unsigned_abs-mul a (pos x)) ∙ ap unsigned_abs e ∙ unsigned_abs-mul b (pos y)

-- two rationals that are equal across are one
pub same_across : (a b : Rational) → a.num *ℤ pos b.den ≡ b.num *ℤ pos a.den → a ≡ b
same_across a b e =
    let d : a.den ≡ b.den = lowest_unique (unsigned_abs a.num) a.den (unsigned_abs b.num) b.den a.positive b.positive a.lowest b.lowest
    (abs_cross a.num b.num b.den a.den e) in
    same_parts a b (cancel_factor a.num b.num b.den b.positive (e ∙ ap (λ n. b.num *ℤ pos n) d)) d

-- the same value by two names
pub same_value : (q r : Rational) (n m : ℤ) (d e : ℕ) → 0 < d → 0 < e → IsRatio q n d → IsRatio r m e → n *ℤ pos e ≡ m *ℤ pos d → q ≡ r
same_value q r n m d e hd he f g h = same_across q r (cancel_factor (q.num *ℤ pos r.den) (r.num *ℤ pos q.den) (d * e) (mul-pos hd he)
    (cross q.num n r.num m (pos q.den) (pos d) (pos r.den) (pos e) f g h))
  where
    cross : (qn n rn m qd d rd e : ℤ) → qn *ℤ d ≡ n *ℤ qd → rn *ℤ e ≡ m *ℤ rd → n *ℤ e ≡ m *ℤ d → (qn *ℤ rd) *ℤ (d *ℤ e) ≡ (rn *ℤ qd) *ℤ (d *ℤ e)
    cross qn n rn m qd d rd e f g h =
        let QN = v 0 in let N = v 1 in let RN = v 2 in let M = v 3 in let QD = v 4 in let D = v 5 in let RD = v 6 in let E = v 7 in
        let ρ : List ℤ = qn ∷ n ∷ rn ∷ m ∷ qd ∷ d ∷ rd ∷ e ∷ [] in
        ring ring_ℤ ρ (times (times QN RD) (times D E)) (times (times QN D) (times RD E)) refl
        ∙ ap (λ x. x *ℤ (rd *ℤ e)) f
        ∙ ring ring_ℤ ρ (times (times N QD) (times RD E)) (times (times N E) (times QD RD)) refl
        ∙ ap (λ x. x *ℤ (qd *ℤ rd)) h
        ∙ ring ring_ℤ ρ (times (times M D) (times QD RD)) (times (times M RD) (times QD D)) refl
        ∙ ap (λ x. x *ℤ (qd *ℤ d)) (sym g)
        ∙ ring ring_ℤ ρ (times (times RN E) (times QD D)) (times (times RN QD) (times D E)) refl

pub own_name : (a : Rational) → IsRatio a a.num a.den
own_name a = refl

-- names of sums, products and negations, from names of their parts
names_of : (q : Rational) (n m : ℤ) (d e : ℕ) → 0 < d → 0 < e → IsRatio q n d → n *ℤ pos e ≡ m *ℤ pos d → IsRatio q m e
names_of q n m d e hd he f h = cancel_factor (q.num *ℤ pos e) (m *ℤ pos q.den) d hd
    (zswap q.num (pos e) (pos d) ∙ ap (λ x. x *ℤ pos e) f ∙ zswap n (pos q.den) (pos e) ∙ ap (λ x. x *ℤ pos q.den) h ∙ zswap m (pos d) (pos q.den))
  where
    zswap : (a b c : ℤ) → (a *ℤ b) *ℤ c ≡ (a *ℤ c) *ℤ b
    zswap a b c = omega (arith, zring)

pub plus_names : (a b : Rational) (n m : ℤ) (d e : ℕ) → 0 < d → 0 < e → IsRatio a n d → IsRatio b m e → IsRatio (Q.plus a b) (n *ℤ pos e +ℤ m *ℤ pos d) (d * e)
plus_names a b n m d e hd he f g =
    names_of (Q.plus a b) (a.num *ℤ pos b.den +ℤ b.num *ℤ pos a.den) (n *ℤ pos e +ℤ m *ℤ pos d) (a.den * b.den) (d * e)
    (mul-pos a.positive b.positive) (mul-pos hd he) (quotient_names (a.num *ℤ pos b.den +ℤ b.num *ℤ pos a.den) (a.den * b.den) (mul-pos a.positive b.positive))
    (cross a.num (pos a.den) b.num (pos b.den) n (pos d) m (pos e) f g)
  where
    cross : (an ad bn bd n d m e : ℤ) → an *ℤ d ≡ n *ℤ ad → bn *ℤ e ≡ m *ℤ bd → (an *ℤ bd +ℤ bn *ℤ ad) *ℤ (d *ℤ e) ≡ (n *ℤ e +ℤ m *ℤ d) *ℤ (ad *ℤ bd)
    cross an ad bn bd n d m e f g =
        let AN = v 0 in let AD = v 1 in let BN = v 2 in let BD = v 3 in let N = v 4 in let D = v 5 in let M = v 6 in let E = v 7 in
        let ρ : List ℤ = an ∷ ad ∷ bn ∷ bd ∷ n ∷ d ∷ m ∷ e ∷ [] in
        ring ring_ℤ ρ (times (plus (times AN BD) (times BN AD)) (times D E)) (plus (times (times AN D) (times BD E)) (times (times BN E) (times AD D))) refl
        ∙ ap₂ (λ x y. x *ℤ (bd *ℤ e) +ℤ y *ℤ (ad *ℤ d)) f g
        ∙ ring ring_ℤ ρ (plus (times (times N AD) (times BD E)) (times (times M BD) (times AD D))) (times (plus (times N E) (times M D)) (times AD BD)) refl

pub times_names : (a b : Rational) (n m : ℤ) (d e : ℕ) → 0 < d → 0 < e → IsRatio a n d → IsRatio b m e → IsRatio (Q.times a b) (n *ℤ m) (d * e)
times_names a b n m d e hd he f g =
    names_of (Q.times a b) (a.num *ℤ b.num) (n *ℤ m) (a.den * b.den) (d * e)
    (mul-pos a.positive b.positive) (mul-pos hd he) (quotient_names (a.num *ℤ b.num) (a.den * b.den) (mul-pos a.positive b.positive))
    (cross a.num (pos a.den) b.num (pos b.den) n (pos d) m (pos e) f g)
  where
    cross : (an ad bn bd n d m e : ℤ) → an *ℤ d ≡ n *ℤ ad → bn *ℤ e ≡ m *ℤ bd → (an *ℤ bn) *ℤ (d *ℤ e) ≡ (n *ℤ m) *ℤ (ad *ℤ bd)
    cross an ad bn bd n d m e f g =
        let AN = v 0 in let AD = v 1 in let BN = v 2 in let BD = v 3 in let N = v 4 in let D = v 5 in let M = v 6 in let E = v 7 in
        let ρ : List ℤ = an ∷ ad ∷ bn ∷ bd ∷ n ∷ d ∷ m ∷ e ∷ [] in
        ring ring_ℤ ρ (times (times AN BN) (times D E)) (times (times AN D) (times BN E)) refl
        ∙ ap₂ (λ x y. x *ℤ y) f g
        ∙ ring ring_ℤ ρ (times (times N AD) (times M BD)) (times (times N M) (times AD BD)) refl

-- parts in lowest terms that are equal across are those of the quotient
pub quotient_is : (N n : ℤ) (D d : ℕ) → 0 < d → (hD : 0 < D) (is : IsGcd (unsigned_abs N) D 1) → N *ℤ pos d ≡ n *ℤ pos D → quotient n d ≡ rational_of N D hD is
quotient_is N n D d hd hD is e = same_across (quotient n d) (rational_of N D hD is) (names_of (quotient n d) n N d D hd hD (quotient_names n d hd) (sym e))

pub quotient_parts : (N n : ℤ) (D d : ℕ) → 0 < d → (hD : 0 < D) (is : IsGcd (unsigned_abs N) D 1) → N *ℤ pos d ≡ n *ℤ pos D
    → ((quotient n d).num ≡ N) × ((quotient n d).den ≡ D)
quotient_parts N n D d hd hD is e = (ap (λ q. q.num) (quotient_is N n D d hd hD is e), ap (λ q. q.den) (quotient_is N n D d hd hD is e))

-- parts in lowest terms are those of their quotient
pub own_parts : (n : ℤ) (d : ℕ) → 0 < d → IsGcd (unsigned_abs n) d 1 → ((quotient n d).num ≡ n) × ((quotient n d).den ≡ d)
own_parts n d h is = quotient_parts n n d d h h is refl

pub whole_names : (n : ℤ) → IsRatio (Q.integer n) n 1
whole_names n = quotient_names n 1 (omega arith)
