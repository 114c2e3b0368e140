-- The numbers of a row that stayed as it was in an earlier table: whole numbers over its denominator times a common multiple of those of the rows that moved.
use Rattle.std.proofs.Common.{◌≡◌, ℕ, zero, suc, ◌+◌, ◌*◌, ◌<◌, ◌≤◌, Bool, true, false, cond, ℤ, pos, ◌+ℤ◌, ◌*ℤ◌, neg_ℤ, unsigned_abs, refl, sym, ap, subst, ◌∙◌, arith, mul-pos}
use Rattle.std.proofs.lemmas.Int.{ints, unsigned_abs-mul}
use Rattle.std.proofs.lemmas.Nat.{mul-le}
use Rattle.std.proofs.Math.Nat.{mul_assoc}
use Rattle.it_number.proofs.IntegerRing.{ring_ℤ}
use Rattle.it_rational.specs.Rational.{Rational, IsRatio}
use Rattle.it_rational.specs.Rational as Q
use Rattle.it_rational.proofs.Names.{times_names}
use Rattle.it_rational.proofs.RationalLaws.{ring_ℚ}
use Rattle.it_tableau.specs.FieldOperations.{sum_to, difference}
use Rattle.it_engine.specs.Behind.{share_sum}
use Rattle.it_whole.proofs.Names.{sum_named, minus_names, scaled_name}
use Rattle.it_engine.proofs.Generators.{zero_named}

module _ (m d multiple : ℕ) (some : 0 < d) (whole : 0 < multiple) (moved : ℕ → Bool) (x u : ℕ → Rational) (a y : ℕ → ℤ) (e share : ℕ → ℕ)
    (x_named : (q : ℕ) → q < m → IsRatio (x q) (a q) d)
    (u_named : (q : ℕ) → q < m → moved q ≡ true → IsRatio (u q) (y q) (e q))
    (e_some : (q : ℕ) → q < m → moved q ≡ true → 0 < e q)
    (e_share : (q : ℕ) → q < m → moved q ≡ true → e q * share q ≡ multiple) where
  -- what the rows that moved add, over the common denominator
  abbrev pub whole_sum : ℕ → ℤ
  whole_sum k = sum_to ring_ℤ k (λ q. cond (moved q) ((a q *ℤ y q) *ℤ pos (share q)) (pos 0))

  pub sum_is_named : (k : ℕ) → k ≤ m → IsRatio (sum_to ring_ℚ k (λ q. cond (moved q) (Q.times (x q) (u q)) (Q.integer (pos 0)))) (whole_sum k) (d * multiple)
  sum_is_named zero h = zero_named (d * multiple)
  sum_is_named (suc k) h =
      sum_named (cond (moved k) (Q.times (x k) (u k)) (Q.integer (pos 0))) (sum_to ring_ℚ k (λ q. cond (moved q) (Q.times (x q) (u q)) (Q.integer (pos 0))))
      (cond (moved k) ((a k *ℤ y k) *ℤ pos (share k)) (pos 0)) (whole_sum k) (d * multiple) (mul-pos some whole) (by_move (moved k) refl)
      (sum_is_named k (omega arith))
    where
      by_move : (b : Bool) → moved k ≡ b → IsRatio (cond b (Q.times (x k) (u k)) (Q.integer (pos 0)))
          (cond b ((a k *ℤ y k) *ℤ pos (share k)) (pos 0)) (d * multiple)
      by_move false f = zero_named (d * multiple)
      by_move true f = subst (λ (w : ℕ). IsRatio (Q.times (x k) (u k)) ((a k *ℤ y k) *ℤ pos (share k)) w)
          (mul_assoc d (e k) (share k) ∙ ap (λ w. d * w) (e_share k (omega arith) f))
          (scaled_name (Q.times (x k) (u k)) (a k *ℤ y k) (d * e k) (share k)
          (times_names (x k) (u k) (a k) (y k) d (e k) some (e_some k (omega arith) f) (x_named k (omega arith)) (u_named k (omega arith) f)))

  -- the number of the row itself
  pub difference_is_named : (old : Rational) (z : ℤ) → IsRatio old z d
      → IsRatio (difference ring_ℚ old (sum_to ring_ℚ m (λ q. cond (moved q) (Q.times (x q) (u q)) (Q.integer (pos 0)))))
      (z *ℤ pos multiple +ℤ neg_ℤ (whole_sum m)) (d * multiple)
  difference_is_named old z f = sum_named old (Q.minus total) (z *ℤ pos multiple) (neg_ℤ (whole_sum m)) (d * multiple) (mul-pos some whole)
      (scaled_name old z d multiple f) (minus_names total (whole_sum m) (d * multiple) (sum_is_named m (omega arith)))
    where
      total : Rational
      total = sum_to ring_ℚ m (λ q. cond (moved q) (Q.times (x q) (u q)) (Q.integer (pos 0)))

  module _ (most_a : ℕ) (most : ℕ → ℕ) (a_most : (q : ℕ) → q < m → moved q ≡ true → unsigned_abs (a q) ≤ most_a)
      (y_most : (q : ℕ) → q < m → moved q ≡ true → unsigned_abs (y q) ≤ most q) where
    pub sum_is_bounded : (k : ℕ) → k ≤ m → unsigned_abs (whole_sum k) ≤ most_a * share_sum moved most share k
    sum_is_bounded zero h = omega arith
    sum_is_bounded (suc k) h = two_parts (cond (moved k) ((a k *ℤ y k) *ℤ pos (share k)) (pos 0)) (whole_sum k) most_a
        (cond (moved k) (most k * share k) 0) (share_sum moved most share k) (by_move (moved k) refl) (sum_is_bounded k (omega arith))
      where
        two_parts : (z w : ℤ) (p s r : ℕ) → unsigned_abs z ≤ p * s → unsigned_abs w ≤ p * r → unsigned_abs (z +ℤ w) ≤ p * (s + r)
        two_parts z w p s r f g = omega (arith, ints, f, g)

        of_product : (i j : ℤ) (l p s : ℕ) → unsigned_abs i ≤ p → unsigned_abs j ≤ s → unsigned_abs ((i *ℤ j) *ℤ pos l) ≤ p * (s * l)
        of_product i j l p s f g = subst (λ w. w ≤ p * (s * l)) (sym (unsigned_abs-mul (i *ℤ j) (pos l) ∙ ap (λ w. w * l) (unsigned_abs-mul i j)))
            (subst (λ w. unsigned_abs i * unsigned_abs j * l ≤ w) (mul_assoc p s l)
            (mul-le (unsigned_abs i * unsigned_abs j) l (p * s) l (mul-le (unsigned_abs i) (unsigned_abs j) p s f g) (omega arith)))

        by_move : (b : Bool) → moved k ≡ b → unsigned_abs (cond b ((a k *ℤ y k) *ℤ pos (share k)) (pos 0)) ≤ most_a * cond b (most k * share k) 0
        by_move false f = omega arith
        by_move true f = of_product (a k) (y k) (share k) most_a (most k) (a_most k (omega arith) f) (y_most k (omega arith) f)
