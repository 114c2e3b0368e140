-- Signs of rational numbers by their parts, and their order by the sign of a difference.
use Rattle.std.proofs.Common.{◌≡◌, ◌⊎◌, inl, inr, ℕ, zero, suc, ◌*◌, ◌<◌, ℤ, pos, negsuc, ◌+ℤ◌, ◌*ℤ◌, ◌≤ℤ◌, ◌<ℤ◌, neg_ℤ, true, false, refl, sym, subst, arith, mul-pos, Ordering, Less, Equal, Greater}
use Rattle.std.proofs.lemmas.Bool.{cases_Bool}
use Rattle.std.proofs.lemmas.Int.{ints}
use Rattle.std.specs.Cmp.{int_ranks}
use Rattle.std.specs.Ordering.{MatchOrdering}
use Rattle.it_number.proofs.Integers.{zring}
use Rattle.it_rational.specs.Rational.{Rational, rational_cmp, is_at_least_zero}
use Rattle.it_rational.specs.Rational as Q
use Rattle.it_rational.proofs.Names.{quotient_names, plus_names}
use Rattle.it_rational.proofs.Order.{quotient_least, sign_kept}
use Rattle.it_rational.proofs.Field.{least_by_sign, sign_of_least, sign_of_negative}
use Rattle.it_rational.proofs.Total.{equal_by_comparison}

pub below_sign : (q : Rational) → q.num <ℤ pos 0 → is_at_least_zero q ≡ false
below_sign q h = sign_of_negative q.num h

pub minus_below : (q : Rational) → pos 0 <ℤ q.num → is_at_least_zero (Q.minus q) ≡ false
minus_below q h = by_cases (cases_Bool (is_at_least_zero (Q.minus q)))
  where
    by_cases : (is_at_least_zero (Q.minus q) ≡ true) ⊎ (is_at_least_zero (Q.minus q) ≡ false) → is_at_least_zero (Q.minus q) ≡ false
    by_cases (inr k) = k
    by_cases (inl k) = absurd (not_least q.num (Q.minus q).num q.den (Q.minus q).den q.positive (Q.minus q).positive
        (quotient_names (neg_ℤ q.num) q.den q.positive) h (least_by_sign (Q.minus q).num k))
      where
        not_least : (n m : ℤ) (d e : ℕ) → 0 < d → 0 < e → m *ℤ pos d ≡ neg_ℤ n *ℤ pos e → pos 0 <ℤ n → pos 0 ≤ℤ m → ⊥
        not_least n m d e hd he q h k =
            let x : pos 0 ≤ℤ neg_ℤ n = sign_kept (neg_ℤ n) m e d he hd (sym q) k in omega (arith, ints)

pub minus_least : (q : Rational) → ¬ (pos 0 <ℤ q.num) → is_at_least_zero (Q.minus q) ≡ true
minus_least q h = sign_of_least (Q.minus q).num (quotient_least (neg_ℤ q.num) q.den q.positive (by_sign q.num h))
  where
    by_sign : (z : ℤ) → ¬ (pos 0 <ℤ z) → pos 0 ≤ℤ neg_ℤ z
    by_sign (pos zero) h = omega (arith, ints)
    by_sign (pos (suc n)) h = absurd (h (omega (arith, ints)))
    by_sign (negsuc n) h = omega (arith, ints)

difference : (a b : Rational) → (Q.plus a (Q.minus b)).num *ℤ pos (a.den * b.den)
    ≡ (a.num *ℤ pos b.den +ℤ neg_ℤ b.num *ℤ pos a.den) *ℤ pos (Q.plus a (Q.minus b)).den
difference a b = plus_names a (Q.minus b) a.num (neg_ℤ b.num) a.den b.den a.positive b.positive refl (quotient_names (neg_ℤ b.num) b.den b.positive)

pub difference_least : (a b : Rational) → (b.num *ℤ pos a.den) ≤ℤ (a.num *ℤ pos b.den) → is_at_least_zero (Q.plus a (Q.minus b)) ≡ true
difference_least a b h = sign_of_least (Q.plus a (Q.minus b)).num
    (sign_kept (Q.plus a (Q.minus b)).num (a.num *ℤ pos b.den +ℤ neg_ℤ b.num *ℤ pos a.den) (a.den * b.den) (Q.plus a (Q.minus b)).den
    (mul-pos a.positive b.positive) (Q.plus a (Q.minus b)).positive
    (difference a b) (difference_at_least (a.num *ℤ pos b.den) b.num (pos a.den) h))
  where
    difference_at_least : (x b d : ℤ) → (b *ℤ d) ≤ℤ x → pos 0 ≤ℤ (x +ℤ neg_ℤ b *ℤ d)
    difference_at_least x b d h = omega (arith, zring)

pub difference_below : (a b : Rational) → (a.num *ℤ pos b.den) <ℤ (b.num *ℤ pos a.den) → is_at_least_zero (Q.plus a (Q.minus b)) ≡ false
difference_below a b h = by_cases (cases_Bool (is_at_least_zero (Q.plus a (Q.minus b))))
  where
    no_difference : (x b d : ℤ) → x <ℤ (b *ℤ d) → pos 0 ≤ℤ (x +ℤ neg_ℤ b *ℤ d) → ⊥
    no_difference x b d h k = omega (arith, zring)

    by_cases : (is_at_least_zero (Q.plus a (Q.minus b)) ≡ true) ⊎ (is_at_least_zero (Q.plus a (Q.minus b)) ≡ false)
        → is_at_least_zero (Q.plus a (Q.minus b)) ≡ false
    by_cases (inr k) = k
    by_cases (inl k) = absurd (no_difference (a.num *ℤ pos b.den) b.num (pos a.den) h
        (sign_kept (a.num *ℤ pos b.den +ℤ neg_ℤ b.num *ℤ pos a.den) (Q.plus a (Q.minus b)).num (Q.plus a (Q.minus b)).den (a.den * b.den)
        (Q.plus a (Q.minus b)).positive (mul-pos a.positive b.positive)
        (sym (difference a b)) (least_by_sign (Q.plus a (Q.minus b)).num k)))

pub cmp_less : (a b : Rational) → rational_cmp a b ≡ Less → is_at_least_zero (Q.plus a (Q.minus b)) ≡ false
cmp_less a b e = difference_below a b (subst (λ (r : Ordering). MatchOrdering r ((a.num *ℤ pos b.den) <ℤ (b.num *ℤ pos a.den))
    (a.num *ℤ pos b.den ≡ b.num *ℤ pos a.den) ((b.num *ℤ pos a.den) <ℤ (a.num *ℤ pos b.den))) e
    (int_ranks (a.num *ℤ pos b.den) (b.num *ℤ pos a.den)))

pub cmp_greater : (a b : Rational) → rational_cmp a b ≡ Greater → (is_at_least_zero (Q.plus a (Q.minus b)) ≡ true)
    × (is_at_least_zero (Q.plus b (Q.minus a)) ≡ false)
cmp_greater a b e =
    let l : (b.num *ℤ pos a.den) <ℤ (a.num *ℤ pos b.den) = subst (λ (r : Ordering). MatchOrdering r
    ((a.num *ℤ pos b.den) <ℤ (b.num *ℤ pos a.den)) (a.num *ℤ pos b.den ≡ b.num *ℤ pos a.den)
    ((b.num *ℤ pos a.den) <ℤ (a.num *ℤ pos b.den))) e (int_ranks (a.num *ℤ pos b.den) (b.num *ℤ pos a.den)) in
    (difference_least a b (less_is_at_most (b.num *ℤ pos a.den) (a.num *ℤ pos b.den) l), difference_below b a l)
  where
    less_is_at_most : (x y : ℤ) → x <ℤ y → x ≤ℤ y
    less_is_at_most x y h = omega (arith, ints)

pub cmp_equal : (a b : Rational) → rational_cmp a b ≡ Equal → (is_at_least_zero (Q.plus a (Q.minus b)) ≡ true)
    × (is_at_least_zero (Q.plus b (Q.minus a)) ≡ true)
cmp_equal a b e = let q : a ≡ b = equal_by_comparison a b e in (
  subst (λ (x : Rational). is_at_least_zero (Q.plus x (Q.minus b)) ≡ true) (sym q) (difference_least b b (at_most_itself (b.num *ℤ pos b.den))),
  subst (λ (x : Rational). is_at_least_zero (Q.plus b (Q.minus x)) ≡ true) (sym q) (difference_least b b (at_most_itself (b.num *ℤ pos b.den))),
)
  where
    at_most_itself : (x : ℤ) → x ≤ℤ x
    at_most_itself x = omega (arith, ints)
