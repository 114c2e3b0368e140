-- Sums and products with a zero, and of whole numbers. With a zero nothing is ever too large.
use Rattle.std.proofs.Common.{◌≡◌, ℕ, ℤ, pos, neg_ℤ, ◌+ℤ◌, ◌*ℤ◌, unsigned_abs, ◌↔◌, refl, sym, ap, subst, ◌∙◌, arith, lit<}
use Rattle.std.proofs.lemmas.Int.{ints}
use Rattle.std.proofs.Math.IntN.{zero-*ℤ}
use Rattle.it_number.specs.Limit.{IsWithin}
use Rattle.it_number.proofs.Divisors.{gcd-one, one-gcd}
use Rattle.it_number.proofs.Quotients.{one_pos, one_lowest}
use Rattle.it_rational.specs.Rational.{Rational, quotient, integer, plus, times, minus, inverse}
use Rattle.it_rational.proofs.Field.{null_from}
use Rattle.it_rational.proofs.Names.{own_parts}
use Rattle.it_rational.proofs.RationalLaws.{ring_ℚ, zero-plus, plus_comm, times_comm}
use Rattle.it_number.proofs.Ring.{mul-null, neg-null}
use Rattle.it_number.proofs.SignLemmas.{size_negated, none_plus, plus_none}
use Rattle.it_number.proofs.Integers.{times_one}
use Rattle.it_fraction.specs.Fits.{IsNarrow, PartsFit, common_numerator, SumFits, DifferenceFits}
use native.Mathlib.Nat.{div-one, one-dvd}

-- the parts of 0
pub zero_parts : ((integer (pos 0)).num ≡ pos 0) × ((integer (pos 0)).den ≡ 1)
zero_parts = own_parts (pos 0) 1 one_pos one_lowest

pub numerator_of_zero : (x : Rational) → x ≡ integer (pos 0) → x.num ≡ pos 0
numerator_of_zero x e = ap (λ (q : Rational). q.num) e ∙ zero_parts.0

-- a number whose numerator is 0 has denominator 1
zero_den : (x : Rational) → x.num ≡ pos 0 → x.den ≡ 1
zero_den x e = ap (λ (q : Rational). q.den) (null_from x e) ∙ zero_parts.1

pub zero_narrow : IsNarrow (integer (pos 0))
zero_narrow = rw (zero_parts.0, zero_parts.1) (lit< tt, lit< tt)

one_numerator : (a c : ℤ) (d : ℕ) → common_numerator a 1 c d ≡ a *ℤ pos d +ℤ c
one_numerator a c d = let p : c *ℤ pos 1 ≡ c = omega (arith, ints) in rw (one-gcd d, div-one d, div-one 1, p) refl

-- a sum whose left denominator is 1 forms a d, c, their sum and d
one_fits : (a c : ℤ) (d : ℕ) → IsWithin (a *ℤ pos d) → IsWithin c → IsWithin (a *ℤ pos d +ℤ c) → IsWithin (pos d) → PartsFit a 1 c d
one_fits a c d wl wr wt wb =
    let p : c *ℤ pos 1 ≡ c = omega (arith, ints) in
    record {
      left = rw (one-gcd d, div-one d) wl;
      right = rw (one-gcd d, div-one 1, p) wr;
      total = rw (one-gcd d, div-one d, div-one 1, p) wt;
      denominator = rw (one-gcd d, div-one 1, gcd-one, div-one d) (omega (arith, wb));
    }

-- and one whose right denominator is 1 forms a, c b, their sum and b
fits_one : (a : ℤ) (b : ℕ) (c : ℤ) → IsWithin a → IsWithin (c *ℤ pos b) → IsWithin (a +ℤ c *ℤ pos b) → IsWithin (pos b) → PartsFit a b c 1
fits_one a b c wl wr wt wb =
    let p : a *ℤ pos 1 ≡ a = omega (arith, ints) in
    record {
      left = rw (gcd-one b, div-one 1, p) wl;
      right = rw (gcd-one b, div-one b) wr;
      total = rw (gcd-one b, div-one b, div-one 1, p) wt;
      denominator = rw (gcd-one b, div-one b, gcd-one, div-one 1) (omega (arith, wb));
    }

no_product : (a b : ℤ) → a ≡ pos 0 → a *ℤ b ≡ pos 0
no_product a b e = ap (λ z. z *ℤ b) e ∙ zero-*ℤ b

-- the sum of x and y where x is whole
whole_left_fits : (x y : Rational) → x.den ≡ 1 → IsWithin (x.num *ℤ pos y.den) → IsWithin y.num → IsWithin (x.num *ℤ pos y.den +ℤ y.num)
    → IsWithin (pos y.den) → SumFits x y
whole_left_fits x y e wl wr wt wb = subst (λ (d : ℕ). PartsFit x.num d y.num y.den) (sym e) (one_fits x.num y.num y.den wl wr wt wb)

-- sums of whole numbers
pub whole-sum-fits : (x y : Rational) → x.den ≡ 1 → y.den ≡ 1 → IsNarrow x → IsNarrow y → IsWithin (x.num +ℤ y.num) ↔ SumFits x y
whole-sum-fits x y e f nx ny = (sum_fits, sum_within)
  where
    sum_fits : IsWithin (x.num +ℤ y.num) → SumFits x y
    sum_fits h = whole_left_fits x y e (rw (f, times_one x.num) nx.0) ny.0 (rw (f, times_one x.num) h) ny.1

    sum_within : SumFits x y → IsWithin (x.num +ℤ y.num)
    sum_within s =
        let t = subst (λ (d : ℕ). PartsFit x.num 1 y.num d) f (subst (λ (b : ℕ). PartsFit x.num b y.num y.den) e s) in
        subst IsWithin (one_numerator x.num y.num 1 ∙ ap (λ z. z +ℤ y.num) (times_one x.num)) t.total

pub whole-sum : (x y : Rational) → x.den ≡ 1 → y.den ≡ 1 → integer (x.num +ℤ y.num) ≡ plus x y
whole-sum x y e f = rw (e, f) (ap (λ (z : ℤ). quotient z 1) (sum_over_one x.num y.num))
  where
    sum_over_one : (m n : ℤ) → m +ℤ n ≡ m *ℤ pos 1 +ℤ n *ℤ pos 1
    sum_over_one m n = omega (arith, ints)

-- products of whole numbers
pub whole-product : (x y : Rational) → x.den ≡ 1 → y.den ≡ 1 → integer (x.num *ℤ y.num) ≡ times x y
whole-product x y e f = rw (e, f) refl

pub whole-narrow : (z : ℤ) → IsWithin z ↔ IsNarrow (integer z)
whole-narrow z = let p = own_parts z 1 one_pos (one-dvd (unsigned_abs z), one-dvd 1, λ d p q. q) in rw (p.0, p.1) (λ h. (h, lit< tt), λ h. h.0)

-- sums with 0
pub zero-sum-fits : (x y : Rational) → x.num ≡ pos 0 → IsNarrow y → SumFits x y
zero-sum-fits x y e n =
    let none : x.num *ℤ pos y.den ≡ pos 0 = no_product x.num (pos y.den) e in
    let rest : x.num *ℤ pos y.den +ℤ y.num ≡ y.num = none_plus (x.num *ℤ pos y.den) y.num none in
    whole_left_fits x y (zero_den x e) (rw none (lit< tt)) n.0 (rw rest n.0) n.1

pub zero-sum : (x y : Rational) → x.num ≡ pos 0 → plus x y ≡ y
zero-sum x y e = ap (λ (q : Rational). plus q y) (null_from x e) ∙ zero-plus y

pub sum-zero-fits : (x y : Rational) → y.num ≡ pos 0 → IsNarrow x → SumFits x y
sum-zero-fits x y e n =
    let none : y.num *ℤ pos x.den ≡ pos 0 = no_product y.num (pos x.den) e in
    let rest : x.num +ℤ y.num *ℤ pos x.den ≡ x.num = plus_none x.num (y.num *ℤ pos x.den) none in
    subst (λ (d : ℕ). PartsFit x.num x.den y.num d) (sym (zero_den y e)) (fits_one x.num x.den y.num n.0 (rw none (lit< tt)) (rw rest n.0) n.1)

pub sum-zero : (x y : Rational) → y.num ≡ pos 0 → plus x y ≡ x
sum-zero x y e = plus_comm x y ∙ zero-sum y x e

minus_zero : (y : Rational) → y.num ≡ pos 0 → (minus y).num ≡ pos 0
minus_zero y e = ap (λ (q : Rational). (minus q).num) (null_from y e) ∙ ap (λ (q : Rational). q.num) (neg-null ring_ℚ) ∙ zero_parts.0

-- differences with 0
pub difference-zero-fits : (x y : Rational) → y.num ≡ pos 0 → IsNarrow x → DifferenceFits x y
difference-zero-fits x y e n = sum-zero-fits x (minus y) (minus_zero y e) n

pub difference-zero : (x y : Rational) → y.num ≡ pos 0 → plus x (minus y) ≡ x
difference-zero x y e = sum-zero x (minus y) (minus_zero y e)

pub zero-difference-fits : (x y : Rational) → x.num ≡ pos 0 → IsNarrow (minus y) → DifferenceFits x y
zero-difference-fits x y e n = zero-sum-fits x (minus y) e n

pub zero-difference : (x y : Rational) → x.num ≡ pos 0 → plus x (minus y) ≡ minus y
zero-difference x y e = zero-sum x (minus y) e

-- products with 0
pub zero-product : (x y : Rational) → x.num ≡ pos 0 → times x y ≡ integer (pos 0)
zero-product x y e = times_comm x y ∙ ap (times y) (null_from x e) ∙ mul-null ring_ℚ y

pub product-zero : (x y : Rational) → y.num ≡ pos 0 → times x y ≡ integer (pos 0)
product-zero x y e = ap (times x) (null_from y e) ∙ mul-null ring_ℚ x

pub zero-product-narrow : (x y : Rational) → x.num ≡ pos 0 → IsNarrow (times x y)
zero-product-narrow x y e = rw (zero-product x y e) zero_narrow

pub product-zero-narrow : (x y : Rational) → y.num ≡ pos 0 → IsNarrow (times x y)
product-zero-narrow x y e = rw (product-zero x y e) zero_narrow

-- 0 over a number
pub zero-quotient-narrow : (x y : Rational) → x.num ≡ pos 0 → IsNarrow (times x (inverse y))
zero-quotient-narrow x y e = zero-product-narrow x (inverse y) e

-- a negation is no wider
pub minus-narrow : (x : Rational) → IsNarrow x → IsNarrow (minus x)
minus-narrow x n =
    let size : unsigned_abs (neg_ℤ x.num) ≡ unsigned_abs x.num = size_negated x.num in
    let parts = own_parts (neg_ℤ x.num) x.den x.positive (rw size x.lowest) in
    rw (parts.0, parts.1, size) n
