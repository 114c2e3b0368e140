-- one rate is eliminated: a row is the pair of its coefficient at the rate and its value at the rest
use Rattle.std.proofs.Common.{⊎_elim, ◌≡◌, ◌⊎◌, inl, inr, ℤ, pos, neg_ℤ, ◌+ℤ◌, ◌-ℤ◌, ◌*ℤ◌, ◌≤ℤ◌, ◌<ℤ◌, List, [], ◌∷◌, refl, sym, ap, subst, arith}
use Rattle.std.proofs.lemmas.Int.{ints, by_lt_z}
use Rattle.it_number.proofs.Integers.{zring}
use Rattle.it_number.proofs.Ring.{ring, v, plus, times, minus}
use Rattle.it_number.proofs.IntegerRing.{ring_ℤ}
use Rattle.it_number.proofs.SignLemmas.{sum_least, least_by_multiple, product_least}
use Rattle.it_eliminate.proofs.MemberLemmas.{Member}

-- the row b bounds the rate from below at least as far as the row t
abbrev pub Bounds : ℤ × ℤ → ℤ × ℤ → Type 0
Bounds b t = pos 0 ≤ℤ (t.1 *ℤ b.0 -ℤ b.1 *ℤ t.0)

bounds_trans : (a b c : ℤ × ℤ) → pos 0 <ℤ a.0 → pos 0 <ℤ b.0 → pos 0 <ℤ c.0 → Bounds a b → Bounds b c → Bounds a c
bounds_trans a b c ha hb hc p q = least_by_multiple b.0 (c.1 *ℤ a.0 -ℤ a.1 *ℤ c.0) hb
    (subst (λ (x : ℤ). pos 0 ≤ℤ x) (multiple_of_bound a.0 a.1 b.0 b.1 c.0 c.1)
    (sum_least (a.0 *ℤ (c.1 *ℤ b.0 -ℤ b.1 *ℤ c.0)) (c.0 *ℤ (b.1 *ℤ a.0 -ℤ a.1 *ℤ b.0))
    (product_least a.0 (c.1 *ℤ b.0 -ℤ b.1 *ℤ c.0) (omega (arith, ints)) q)
    (product_least c.0 (b.1 *ℤ a.0 -ℤ a.1 *ℤ b.0) (omega (arith, ints)) p)))
  where
    multiple_of_bound : (a u b w c y : ℤ) → a *ℤ (y *ℤ b -ℤ w *ℤ c) +ℤ c *ℤ (w *ℤ a -ℤ u *ℤ b) ≡ b *ℤ (y *ℤ a -ℤ u *ℤ c)
    multiple_of_bound a u b w c y = ring ring_ℤ (a ∷ u ∷ b ∷ w ∷ c ∷ y ∷ [])
        (plus (times (v 0) (plus (times (v 5) (v 2)) (minus (times (v 3) (v 4))))) (times (v 4) (plus (times (v 3) (v 0)) (minus (times (v 1) (v 2))))))
        (times (v 2) (plus (times (v 5) (v 0)) (minus (times (v 1) (v 4))))) refl

bounds_refl : (a : ℤ × ℤ) → Bounds a a
bounds_refl a = omega (arith, ints)

-- no row has a positive coefficient, or one of them bounds furthest
abbrev FurthestBound : List (ℤ × ℤ) → Type 0
FurthestBound rows = ((t : ℤ × ℤ) → Member t rows → t.0 ≤ℤ pos 0)
    ⊎ ((b : ℤ × ℤ) × Member b rows × (pos 0 <ℤ b.0) × ((t : ℤ × ℤ) → Member t rows → pos 0 <ℤ t.0 → Bounds b t))

not_both : (x : ℤ) → x ≤ℤ pos 0 → pos 0 <ℤ x → ⊥
not_both x h k = omega (arith, ints)

furthest_bound : (rows : List (ℤ × ℤ)) → FurthestBound rows
furthest_bound [] = inl (λ t m. absurd m)
furthest_bound (r ∷ rs) = by_lt_z (pos 0) r.0 (λ up. with_positive_row up (furthest_bound rs)) (λ low. with_low_row low (furthest_bound rs))
  where
    with_low_row : r.0 ≤ℤ pos 0 → FurthestBound rs → FurthestBound (r ∷ rs)
    with_low_row low (inl none) = inl (λ t m. ⊎_elim (λ e. subst (λ (x : ℤ × ℤ). x.0 ≤ℤ pos 0) (sym e) low) (none t) m)
    with_low_row low (inr (b, m, up, far)) = inr (b, inr m, up, λ t n ut. ⊎_elim (λ e. absurd (row_not_positive t e ut)) (λ k. far t k ut) n)
      where
        row_not_positive : (t : ℤ × ℤ) → t ≡ r → pos 0 <ℤ t.0 → ⊥
        row_not_positive t e ut = let z : t.0 ≡ r.0 = ap (λ x. x.0) e in omega (arith, ints)

    with_positive_row : pos 0 <ℤ r.0 → FurthestBound rs → FurthestBound (r ∷ rs)
    with_positive_row up (inl none) = inr (
      r,
      inl refl,
      up,
      λ t n ut. ⊎_elim
          (λ e. subst (λ (x : ℤ × ℤ). Bounds r x) (sym e) (bounds_refl r)) (λ k. absurd (not_both t.0 (none t k) ut)) n,
    )
    with_positive_row up (inr (b, m, ub, far)) = by_lt_z (r.1 *ℤ b.0 -ℤ b.1 *ℤ r.0) (pos 0)
        (λ closer. inr (
          r,
          inl refl,
          up,
          λ t n ut. ⊎_elim (λ e. subst (λ (x : ℤ × ℤ). Bounds r x) (sym e) (bounds_refl r))
              (λ k. bounds_trans r b t up ub ut (row_bounds_other closer) (far t k ut)) n,
        ))
        (λ holds. inr (b, inr m, ub, λ t n ut. ⊎_elim (λ e. subst (λ (x : ℤ × ℤ). Bounds b x) (sym e) holds) (λ k. far t k ut) n))
      where
        row_bounds_other : (r.1 *ℤ b.0 -ℤ b.1 *ℤ r.0) <ℤ pos 0 → Bounds r b
        row_bounds_other h = omega (arith, zring)

-- the same from above: negate each coefficient
abbrev negated_row : ℤ × ℤ → ℤ × ℤ
negated_row t = (neg_ℤ t.0, t.1)

abbrev negated_list : List (ℤ × ℤ) → List (ℤ × ℤ)
negated_list [] = []
negated_list (t ∷ ts) = negated_row t ∷ negated_list ts

member_negated : (t : ℤ × ℤ) (rows : List (ℤ × ℤ)) → Member t rows → Member (negated_row t) (negated_list rows)
member_negated t [] m = absurd m
member_negated t (r ∷ rs) (inl e) = inl (ap negated_row e)
member_negated t (r ∷ rs) (inr m) = inr (member_negated t rs m)

-- where the cancelled rows hold, some multiple of the point extends: k is one of the coefficients
pub extends : (rows : List (ℤ × ℤ))
    → ((t : ℤ × ℤ) → Member t rows → t.0 ≡ pos 0 → pos 0 ≤ℤ t.1)
    → ((s t : ℤ × ℤ) → Member s rows → Member t rows → pos 0 <ℤ s.0 → t.0 <ℤ pos 0 → pos 0 ≤ℤ (neg_ℤ t.0 *ℤ s.1 +ℤ s.0 *ℤ t.1))
    → (k : ℤ) × (x : ℤ) × (pos 1 ≤ℤ k) × ((t : ℤ × ℤ) → Member t rows → pos 0 ≤ℤ (t.0 *ℤ x +ℤ k *ℤ t.1))
extends rows flat pairs = by_up (furthest_bound rows)
  where
    -- each row at k and x, by the sign of its coefficient
    by_sign : (t : ℤ × ℤ) (k x : ℤ) → pos 1 ≤ℤ k → Member t rows → (pos 0 <ℤ t.0 → pos 0 ≤ℤ (t.0 *ℤ x +ℤ k *ℤ t.1))
        → (t.0 <ℤ pos 0 → pos 0 ≤ℤ (t.0 *ℤ x +ℤ k *ℤ t.1)) → pos 0 ≤ℤ (t.0 *ℤ x +ℤ k *ℤ t.1)
    by_sign t k x hk m up down = by_lt_z (pos 0) t.0 up (λ low. by_lt_z t.0 (pos 0) down (λ high.
        let z : t.0 ≡ pos 0 = omega (arith, ints) in
        let p : pos 0 ≤ℤ (k *ℤ t.1) = product_least k t.1 (omega (arith, ints)) (flat t m z) in
        let q : t.0 *ℤ x ≡ pos 0 *ℤ x = ap (λ y. y *ℤ x) z in omega (arith, ints, p, q)))

    by_up : FurthestBound rows → (k : ℤ) × (x : ℤ) × (pos 1 ≤ℤ k) × ((t : ℤ × ℤ) → Member t rows → pos 0 ≤ℤ (t.0 *ℤ x +ℤ k *ℤ t.1))
    by_up (inr (b, m, ub, far)) = (
      b.0,
      neg_ℤ b.1,
      omega (arith, ints),
      λ t n. by_sign t b.0 (neg_ℤ b.1) (omega (arith, ints)) n
          (λ ut. let f : pos 0 ≤ℤ (t.1 *ℤ b.0 -ℤ b.1 *ℤ t.0) = far t n ut in omega (arith, zring, f))
          (λ dt. let f : pos 0 ≤ℤ (neg_ℤ t.0 *ℤ b.1 +ℤ b.0 *ℤ t.1) = pairs b t m n ub dt in omega (arith, zring, f)),
    )
    by_up (inl none) = by_down (furthest_bound (negated_list rows))
      where
        by_down : FurthestBound (negated_list rows) → (k : ℤ) × (x : ℤ) × (pos 1 ≤ℤ k) × ((t : ℤ × ℤ) → Member t rows → pos 0 ≤ℤ (t.0 *ℤ x +ℤ k *ℤ t.1))
        by_down (inl flat_all) = (
          pos 1,
          pos 0,
          omega (arith, ints),
          λ t n. by_sign t (pos 1) (pos 0) (omega (arith, ints)) n
              (λ ut. absurd (not_both t.0 (none t n) ut))
              (λ dt. let f : neg_ℤ t.0 ≤ℤ pos 0 = flat_all (negated_row t) (member_negated t rows n) in absurd (not_both (neg_ℤ t.0) f (omega (arith, ints)))),
        )
        by_down (inr (b, m, ub, far)) = (
          b.0,
          b.1,
          omega (arith, ints),
          λ t n. by_sign t b.0 b.1 (omega (arith, ints)) n
              (λ ut. absurd (not_both t.0 (none t n) ut))
              (λ dt. let f : pos 0 ≤ℤ (t.1 *ℤ b.0 -ℤ b.1 *ℤ neg_ℤ t.0) = far (negated_row t) (member_negated t rows n) (omega (arith, ints))
              in omega (arith, zring, f)),
        )
