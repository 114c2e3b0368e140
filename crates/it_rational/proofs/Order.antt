-- Sums and products of rational numbers that are at least 0, and the inverse.
use Rattle.std.proofs.Common.{◌≡◌, ◌≢◌, ℕ, zero, suc, ◌*◌, ◌<◌, ℤ, pos, negsuc, ◌+ℤ◌, ◌*ℤ◌, ◌≤ℤ◌, neg_ℤ, refl, ap, ◌∙◌, arith, mul-pos}
use Rattle.std.proofs.lemmas.Int.{ints}
use Rattle.it_number.proofs.SignLemmas.{product_least}
use Rattle.it_rational.specs.Rational.{Rational, quotient}
use Rattle.it_rational.specs.Rational as Q
use Rattle.it_rational.proofs.Names.{quotient_names, same_value, times_names}

-- q is at least 0
abbrev pub IsLeast : Rational → Type 0
IsLeast q = pos 0 ≤ℤ q.num

pub sign_kept : (m n : ℤ) (d e : ℕ) → 0 < d → 0 < e → m *ℤ pos d ≡ n *ℤ pos e → pos 0 ≤ℤ n → pos 0 ≤ℤ m
sign_kept (pos m) n d e hd he q h = omega (arith, ints)
sign_kept (negsuc m) (pos n) d e hd he q h = absurd (omega (arith, ints, q, mul-pos hd he, product_above_zero m d hd))
  where
    product_above_zero : (m d : ℕ) → 0 < d → 0 < suc m * d
    product_above_zero m d h = mul-pos (omega arith) h
sign_kept (negsuc m) (negsuc n) d e hd he q h = absurd (omega (arith, ints))

pub quotient_least : (n : ℤ) (d : ℕ) → 0 < d → pos 0 ≤ℤ n → IsLeast (quotient n d)
quotient_least n d h k = sign_kept (quotient n d).num n d (quotient n d).den h (quotient n d).positive (quotient_names n d h) k

pub plus_least : (a b : Rational) → IsLeast a → IsLeast b → IsLeast (Q.plus a b)
plus_least a b h k = quotient_least (a.num *ℤ pos b.den +ℤ b.num *ℤ pos a.den) (a.den * b.den) (mul-pos a.positive b.positive)
    (let x : pos 0 ≤ℤ (a.num *ℤ pos b.den) = product_least a.num (pos b.den) h (omega (arith, ints)) in
    let y : pos 0 ≤ℤ (b.num *ℤ pos a.den) = product_least b.num (pos a.den) k (omega (arith, ints)) in omega (arith, ints, x, y))

pub times_least : (a b : Rational) → IsLeast a → IsLeast b → IsLeast (Q.times a b)
times_least a b h k = quotient_least (a.num *ℤ b.num) (a.den * b.den) (mul-pos a.positive b.positive) (product_least a.num b.num h k)

-- a number that isn't 0 has an inverse
pub times-inverse : (a : Rational) → a.num ≢ pos 0 → Q.times a (Q.inverse a) ≡ Q.integer (pos 1)
times-inverse a n = by_sign a.num refl
  where
    by_sign : (m : ℤ) → a.num ≡ m → Q.times a (Q.signed_quotient (pos a.den) m) ≡ Q.integer (pos 1)
    by_sign (pos zero) e = absurd (n e)
    by_sign (pos (suc m)) e = same_value (Q.times a (quotient (pos a.den) (suc m))) (Q.integer (pos 1)) (a.num *ℤ pos a.den) (pos 1)
        (a.den * suc m) 1 (mul-pos a.positive (omega arith)) (omega arith)
        (times_names a (quotient (pos a.den) (suc m)) a.num (pos a.den) a.den (suc m) a.positive (omega arith) refl
        (quotient_names (pos a.den) (suc m) (omega arith)))
        (quotient_names (pos 1) 1 (omega arith)) (ap (λ x. (x *ℤ pos a.den) *ℤ pos 1) e ∙ omega (arith, ints))
    by_sign (negsuc m) e = same_value (Q.times a (quotient (neg_ℤ (pos a.den)) (suc m))) (Q.integer (pos 1)) (a.num *ℤ neg_ℤ (pos a.den))
        (pos 1) (a.den * suc m) 1 (mul-pos a.positive (omega arith)) (omega arith)
        (times_names a (quotient (neg_ℤ (pos a.den)) (suc m)) a.num (neg_ℤ (pos a.den)) a.den (suc m) a.positive (omega arith) refl
        (quotient_names (neg_ℤ (pos a.den)) (suc m) (omega arith)))
        (quotient_names (pos 1) 1 (omega arith)) (ap (λ x. (x *ℤ neg_ℤ (pos a.den)) *ℤ pos 1) e ∙ signs_cancel a.den m)
      where
        signs_cancel : (d m : ℕ) → (negsuc m *ℤ neg_ℤ (pos d)) *ℤ pos 1 ≡ pos 1 *ℤ pos (d * suc m)
        signs_cancel zero m = omega (arith, ints)
        signs_cancel (suc d) m = omega (arith, ints)
