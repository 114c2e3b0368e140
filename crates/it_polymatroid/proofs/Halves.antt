-- From the elemental inequalities to all pairs of sets, by the lowest binary digit: a function on the sets of n + 1 variables is two functions on the sets of n.
use Rattle.std.proofs.Common.{◌≡◌, ℕ, zero, suc, ◌+◌, ◌-◌, ◌*◌, ◌/◌, ◌%◌, ◌^◌, ◌<◌, ◌⊎◌, inl, inr, ℤ, pos, neg_ℤ, ◌+ℤ◌, ◌-ℤ◌, ◌≤ℤ◌, bit_and, bit_or, refl, sym, ap, ap₂, subst, subst₂, ◌∙◌, arith, lit<, add-zero}
use Rattle.std.proofs.lemmas.Int.{ints}
use Rattle.std.proofs.lemmas.Nat.{and_block, or_block, and_le_r, or_lt, and_or_self, and_comm, or_comm, and_mask, pow_pos, pow_below}
use Rattle.std.proofs.lemmas.Nat.Bits.{bit_at_lowest, bit_at-suc}
use Rattle.std.specs.Int.{bit_at}
use Rattle.it_polymatroid.specs.Polymatroid.{IsPolymatroid}
use native.Mathlib.Nat.{two-pow-succ, mod-eq_of_lt}

-- the elemental inequalities by their indexes
pub record ElementalsHold (n : ℕ) (h : ℕ → ℤ) : Type 0 where
  pub conditional : (i : ℕ) → i < n → h (2 ^ n - 1 - 2 ^ i) ≤ℤ h (2 ^ n - 1)
  pub mutual_of : (i j k : ℕ) → i < j → j < n → k < 2 ^ n → bit_at k i ≡ 0 → bit_at k j ≡ 0
      → (h (k + 2 ^ i + 2 ^ j) +ℤ h k) ≤ℤ (h (k + 2 ^ i) +ℤ h (k + 2 ^ j))

abbrev even_half : (ℕ → ℤ) → ℕ → ℤ
even_half f s = f (s * 2)

abbrev odd_half : (ℕ → ℤ) → ℕ → ℤ
odd_half f s = f (s * 2 + 1)

-- what the lowest variable adds to a set of the others
abbrev gain : (ℕ → ℤ) → ℕ → ℤ
gain f s = f (s * 2 + 1) -ℤ f (s * 2)

-- one more member makes f no larger
abbrev Falls : ℕ → (ℕ → ℤ) → Type 0
Falls zero f = Unit {0}
Falls (suc n) f = ((k : ℕ) → k < 2 ^ n → odd_half f k ≤ℤ even_half f k) × (Falls n (even_half f) × Falls n (odd_half f))

-- what a member adds falls
abbrev Bends : ℕ → (ℕ → ℤ) → Type 0
Bends zero f = Unit {0}
Bends (suc n) f = Falls n (gain f) × (Bends n (even_half f) × Bends n (odd_half f))

-- a number is twice its half, or one more
halves : (s : ℕ) → (s ≡ (s / 2) * 2) ⊎ (s ≡ (s / 2) * 2 + 1)
halves s = by_cases (s % 2) refl
  where
    by_cases : (r : ℕ) → s % 2 ≡ r → (s ≡ (s / 2) * 2) ⊎ (s ≡ (s / 2) * 2 + 1)
    by_cases zero e = inl (omega arith)
    by_cases (suc zero) e = inr (omega arith)
    by_cases (suc (suc r)) e = absurd (omega arith)

-- a set is inside a union with it
and_or_right : (a b : ℕ) → bit_and b (bit_or a b) ≡ b
and_or_right a b = and_comm b (bit_or a b) ∙ and_or_self b a

and_or_left : (a b : ℕ) → bit_and a (bit_or a b) ≡ a
and_or_left a b = ap (bit_and a) (or_comm a b) ∙ and_or_right b a

-- & and | on numbers by their halves
and_ee : (a b : ℕ) → bit_and (a * 2) (b * 2) ≡ bit_and a b * 2
and_ee a b = ap₂ bit_and (sym (add-zero (a * 2))) (sym (add-zero (b * 2))) ∙ and_block 1 a b 0 0 (lit< tt) (lit< tt) ∙ add-zero (bit_and a b * 2)

and_eo : (a b : ℕ) → bit_and (a * 2) (b * 2 + 1) ≡ bit_and a b * 2
and_eo a b = ap (λ n. bit_and n (b * 2 + 1)) (sym (add-zero (a * 2))) ∙ and_block 1 a b 0 1 (lit< tt) (lit< tt) ∙ add-zero (bit_and a b * 2)

and_oe : (a b : ℕ) → bit_and (a * 2 + 1) (b * 2) ≡ bit_and a b * 2
and_oe a b = ap (λ n. bit_and (a * 2 + 1) n) (sym (add-zero (b * 2))) ∙ and_block 1 a b 1 0 (lit< tt) (lit< tt) ∙ add-zero (bit_and a b * 2)

and_oo : (a b : ℕ) → bit_and (a * 2 + 1) (b * 2 + 1) ≡ bit_and a b * 2 + 1
and_oo a b = and_block 1 a b 1 1 (lit< tt) (lit< tt)

or_ee : (a b : ℕ) → bit_or (a * 2) (b * 2) ≡ bit_or a b * 2
or_ee a b = ap₂ bit_or (sym (add-zero (a * 2))) (sym (add-zero (b * 2))) ∙ or_block 1 a b 0 0 (lit< tt) (lit< tt) ∙ add-zero (bit_or a b * 2)

or_eo : (a b : ℕ) → bit_or (a * 2) (b * 2 + 1) ≡ bit_or a b * 2 + 1
or_eo a b = ap (λ n. bit_or n (b * 2 + 1)) (sym (add-zero (a * 2))) ∙ or_block 1 a b 0 1 (lit< tt) (lit< tt)

or_oe : (a b : ℕ) → bit_or (a * 2 + 1) (b * 2) ≡ bit_or a b * 2 + 1
or_oe a b = ap (λ n. bit_or (a * 2 + 1) n) (sym (add-zero (b * 2))) ∙ or_block 1 a b 1 0 (lit< tt) (lit< tt)

or_oo : (a b : ℕ) → bit_or (a * 2 + 1) (b * 2 + 1) ≡ bit_or a b * 2 + 1
or_oo a b = or_block 1 a b 1 1 (lit< tt) (lit< tt)

-- to show a fact of every number, show it of every double and every double and one
by_halves : (P : ℕ → Type 0) → ((a : ℕ) → P (a * 2)) → ((a : ℕ) → P (a * 2 + 1)) → (s : ℕ) → P s
by_halves P e o s = by_cases (halves s)
  where
    by_cases : (s ≡ (s / 2) * 2) ⊎ (s ≡ (s / 2) * 2 + 1) → P s
    by_cases (inl q) = subst P (sym q) (e (s / 2))
    by_cases (inr q) = subst P (sym q) (o (s / 2))

-- f falls along every inclusion
falls_inside : (n : ℕ) (f : ℕ → ℤ) → Falls n f → (s t : ℕ) → t < 2 ^ n → bit_and s t ≡ s → f t ≤ℤ f s
falls_inside zero f e s t h i =
    let t_0 : t ≡ 0 = omega arith in
    let s_0 : s ≡ 0 = sym i ∙ ap (bit_and s) t_0 ∙ omega (arith, and_le_r s 0) in
    subst₂ (λ (x y : ℕ). f y ≤ℤ f x) (sym s_0) (sym t_0) (omega (arith, ints))
falls_inside (suc n) f e s t h i = step n f e.0 (falls_inside n (even_half f) e.1.0) (falls_inside n (odd_half f) e.1.1) s t h i
  where
    step : (n : ℕ) (f : ℕ → ℤ) → ((k : ℕ) → k < 2 ^ n → odd_half f k ≤ℤ even_half f k)
        → ((s t : ℕ) → t < 2 ^ n → bit_and s t ≡ s → even_half f t ≤ℤ even_half f s)
        → ((s t : ℕ) → t < 2 ^ n → bit_and s t ≡ s → odd_half f t ≤ℤ odd_half f s)
        → (s t : ℕ) → t < 2 ^ suc n → bit_and s t ≡ s → f t ≤ℤ f s
    step n f here ev od = by_halves (λ s. (t : ℕ) → t < 2 ^ suc n → bit_and s t ≡ s → f t ≤ℤ f s)
        (λ a. by_halves (λ t. t < 2 ^ suc n → bit_and (a * 2) t ≡ a * 2 → f t ≤ℤ f (a * 2))
        (λ b h i. ev a b (omega (arith, two-pow-succ n)) (omega (arith, and_ee a b)))
        (λ b h i. let k : b < 2 ^ n = omega (arith, two-pow-succ n) in
        let x : even_half f b ≤ℤ even_half f a = ev a b k (omega (arith, and_eo a b)) in omega (arith, ints, here b k, x)))
        (λ a. by_halves (λ t. t < 2 ^ suc n → bit_and (a * 2 + 1) t ≡ a * 2 + 1 → f t ≤ℤ f (a * 2 + 1))
        (λ b h i. absurd (omega (arith, and_oe a b)))
        (λ b h i. od a b (omega (arith, two-pow-succ n)) (omega (arith, and_oo a b))))

-- all pairs, from what bends
all_pairs : (n : ℕ) (f : ℕ → ℤ) → Bends n f → (s t : ℕ) → s < 2 ^ n → t < 2 ^ n → (f (bit_or s t) +ℤ f (bit_and s t)) ≤ℤ (f s +ℤ f t)
all_pairs zero f e s t hs ht =
    let s_0 : s ≡ 0 = omega arith in let t_0 : t ≡ 0 = omega arith in
    subst₂ (λ (x y : ℕ). (f (bit_or x y) +ℤ f (bit_and x y)) ≤ℤ (f x +ℤ f y)) (sym s_0) (sym t_0) (omega (arith, ints))
all_pairs (suc n) f e s t hs ht = step n f (falls_inside n (gain f) e.0) (all_pairs n (even_half f) e.1.0) (all_pairs n (odd_half f) e.1.1) s t hs ht
  where
    step : (n : ℕ) (f : ℕ → ℤ) → ((s t : ℕ) → t < 2 ^ n → bit_and s t ≡ s → gain f t ≤ℤ gain f s)
        → ((s t : ℕ) → s < 2 ^ n → t < 2 ^ n → (even_half f (bit_or s t) +ℤ even_half f (bit_and s t)) ≤ℤ (even_half f s +ℤ even_half f t))
        → ((s t : ℕ) → s < 2 ^ n → t < 2 ^ n → (odd_half f (bit_or s t) +ℤ odd_half f (bit_and s t)) ≤ℤ (odd_half f s +ℤ odd_half f t))
        → (s t : ℕ) → s < 2 ^ suc n → t < 2 ^ suc n → (f (bit_or s t) +ℤ f (bit_and s t)) ≤ℤ (f s +ℤ f t)
    step n f falls ev od = by_halves (λ s. (t : ℕ) → s < 2 ^ suc n → t < 2 ^ suc n → (f (bit_or s t) +ℤ f (bit_and s t)) ≤ℤ (f s +ℤ f t))
        (λ a. by_halves (λ t. a * 2 < 2 ^ suc n → t < 2 ^ suc n → (f (bit_or (a * 2) t) +ℤ f (bit_and (a * 2) t)) ≤ℤ (f (a * 2) +ℤ f t))
        (λ b ha hb. rw (or_ee a b, and_ee a b) (ev a b (omega (arith, two-pow-succ n)) (omega (arith, two-pow-succ n))))
        (λ b ha hb. let p : a < 2 ^ n = omega (arith, two-pow-succ n) in let q : b < 2 ^ n = omega (arith, two-pow-succ n) in
        rw (or_eo a b, and_eo a b) (omega (arith, ints, ev a b p q, falls b (bit_or a b) (or_lt n a b p q) (and_or_right a b)))))
        (λ a. by_halves (λ t. a * 2 + 1 < 2 ^ suc n → t < 2 ^ suc n → (f (bit_or (a * 2 + 1) t) +ℤ f (bit_and (a * 2 + 1) t)) ≤ℤ (f (a * 2 + 1) +ℤ f t))
        (λ b ha hb. let p : a < 2 ^ n = omega (arith, two-pow-succ n) in let q : b < 2 ^ n = omega (arith, two-pow-succ n) in
        rw (or_oe a b, and_oe a b) (omega (arith, ints, ev a b p q, falls a (bit_or a b) (or_lt n a b p q) (and_or_left a b))))
        (λ b ha hb. rw (or_oo a b, and_oo a b) (od a b (omega (arith, two-pow-succ n)) (omega (arith, two-pow-succ n)))))

-- ---- from the flat inequalities
bit_low : (k : ℕ) → bit_at (k * 2) 0 ≡ 0
bit_low k = bit_at_lowest (k * 2) ∙ omega arith

bit_even : (k j : ℕ) → bit_at (k * 2) (suc j) ≡ bit_at k j
bit_even k j = bit_at-suc (k * 2) j ∙ ap (λ n. bit_at n j) (omega arith)

bit_odd : (k j : ℕ) → bit_at (k * 2 + 1) (suc j) ≡ bit_at k j
bit_odd k j = bit_at-suc (k * 2 + 1) j ∙ ap (λ n. bit_at n j) (omega arith)

double_even : (k j : ℕ) → k * 2 + 2 ^ suc j ≡ (k + 2 ^ j) * 2
double_even k j = omega (arith, two-pow-succ j)

double_odd : (k j : ℕ) → k * 2 + 1 + 2 ^ suc j ≡ (k + 2 ^ j) * 2 + 1
double_odd k j = omega (arith, two-pow-succ j)

abbrev FlatFalls : ℕ → (ℕ → ℤ) → Type 0
FlatFalls n f = (j k : ℕ) → j < n → k < 2 ^ n → bit_at k j ≡ 0 → f (k + 2 ^ j) ≤ℤ f k

falls_of : (n : ℕ) (f : ℕ → ℤ) → FlatFalls n f → Falls n f
falls_of zero f e = tt
falls_of (suc n) f e = (
  (λ k h. e 0 (k * 2) (omega arith) (omega (arith, two-pow-succ n)) (bit_low k)),
  (
    falls_of n (even_half f) (λ j k hj hk z. subst (λ (m : ℕ). f m ≤ℤ f (k * 2)) (double_even k j)
        (e (suc j) (k * 2) (omega arith) (omega (arith, two-pow-succ n)) (bit_even k j ∙ z))),
    falls_of n (odd_half f) (λ j k hj hk z. subst (λ (m : ℕ). f m ≤ℤ f (k * 2 + 1)) (double_odd k j)
        (e (suc j) (k * 2 + 1) (omega arith) (omega (arith, two-pow-succ n)) (bit_odd k j ∙ z))),
  ),
)

abbrev FlatBends : ℕ → (ℕ → ℤ) → Type 0
FlatBends n f = (i j k : ℕ) → i < j → j < n → k < 2 ^ n → bit_at k i ≡ 0 → bit_at k j ≡ 0 → (f (k + 2 ^ i + 2 ^ j) +ℤ f k) ≤ℤ (f (k + 2 ^ i) +ℤ f (k + 2 ^ j))

two_even : (k i j : ℕ) → k * 2 + 2 ^ suc i + 2 ^ suc j ≡ (k + 2 ^ i + 2 ^ j) * 2
two_even k i j = omega (arith, two-pow-succ i, two-pow-succ j)

two_odd : (k i j : ℕ) → k * 2 + 1 + 2 ^ suc i + 2 ^ suc j ≡ (k + 2 ^ i + 2 ^ j) * 2 + 1
two_odd k i j = omega (arith, two-pow-succ i, two-pow-succ j)

bends_of : (n : ℕ) (f : ℕ → ℤ) → FlatBends n f → Bends n f
bends_of zero f e = tt
bends_of (suc n) f e = (
  falls_of n (gain f) (λ j k hj hk z. gains j k (e 0 (suc j) (k * 2) (omega arith) (omega arith) (omega (arith, two-pow-succ n)) (bit_low k)
      (bit_even k j ∙ z))),
  (
    bends_of n (even_half f) (λ i j k hi hj hk zi zj. rw (← double_even k i, ← double_even k j, ← two_even k i j)
        (e (suc i) (suc j) (k * 2) (omega arith) (omega arith) (omega (arith, two-pow-succ n)) (bit_even k i ∙ zi) (bit_even k j ∙ zj))),
    bends_of n (odd_half f) (λ i j k hi hj hk zi zj. rw (← double_odd k i, ← double_odd k j, ← two_odd k i j)
        (e (suc i) (suc j) (k * 2 + 1) (omega arith) (omega arith) (omega (arith, two-pow-succ n)) (bit_odd k i ∙ zi) (bit_odd k j ∙ zj))),
  ),
)
  where
    gains : (j k : ℕ) → (f (k * 2 + 2 ^ 0 + 2 ^ suc j) +ℤ f (k * 2)) ≤ℤ (f (k * 2 + 2 ^ 0) +ℤ f (k * 2 + 2 ^ suc j)) → gain f (k + 2 ^ j) ≤ℤ gain f k
    gains j k h =
        let a : k * 2 + 2 ^ 0 + 2 ^ suc j ≡ (k + 2 ^ j) * 2 + 1 = omega (arith, two-pow-succ j) in
        let g : (f ((k + 2 ^ j) * 2 + 1) +ℤ f (k * 2)) ≤ℤ (f (k * 2 + 1) +ℤ f ((k + 2 ^ j) * 2)) =
        subst₂ (λ (x y : ℕ). (f x +ℤ f (k * 2)) ≤ℤ (f (k * 2 + 1) +ℤ f y)) a (double_even k j) h in
        omega (arith, ints, g)

abbrev FlatEnds : ℕ → (ℕ → ℤ) → Type 0
FlatEnds n f = (i : ℕ) → i < n → f (2 ^ n - 1 - 2 ^ i) ≤ℤ f (2 ^ n - 1)

inside_full : (n s : ℕ) → s < 2 ^ n → bit_and s (2 ^ n - 1) ≡ s
inside_full n s h = and_mask s n ∙ mod-eq_of_lt h

climbs_of : (n : ℕ) (f : ℕ → ℤ) → Bends n f → FlatEnds n f → Falls n (λ s. neg_ℤ (f s))
climbs_of zero f b e = tt
climbs_of (suc n) f b e =
    ((λ k h. negations_fall k h), (climbs_of n (even_half f) b.1.0 (λ i h. even_climbs i h), climbs_of n (odd_half f) b.1.1 (λ i h. odd_climbs i h)))
  where
    full_set_is_odd : 2 ^ suc n - 1 ≡ (2 ^ n - 1) * 2 + 1
    full_set_is_odd = omega (arith, two-pow-succ n, pow_pos n)

    gain_falls : (k : ℕ) → k < 2 ^ n → gain f (2 ^ n - 1) ≤ℤ gain f k
    gain_falls k h = falls_inside n (gain f) b.0 k (2 ^ n - 1) (omega (arith, pow_pos n)) (inside_full n k h)

    full_set_climbs : even_half f (2 ^ n - 1) ≤ℤ odd_half f (2 ^ n - 1)
    full_set_climbs = subst₂ (λ (x y : ℕ). f x ≤ℤ f y) (omega (arith, two-pow-succ n, pow_pos n)) full_set_is_odd (e 0 (omega arith))

    negations_fall : (k : ℕ) → k < 2 ^ n → neg_ℤ (odd_half f k) ≤ℤ neg_ℤ (even_half f k)
    negations_fall k h = omega (arith, ints, gain_falls k h, full_set_climbs)

    odd_climbs : (i : ℕ) → i < n → odd_half f (2 ^ n - 1 - 2 ^ i) ≤ℤ odd_half f (2 ^ n - 1)
    odd_climbs i h = subst₂ (λ (x y : ℕ). f x ≤ℤ f y) (omega (arith, two-pow-succ n, two-pow-succ i, pow_below i n h, pow_pos n))
        full_set_is_odd (e (suc i) (omega arith))

    even_climbs : (i : ℕ) → i < n → even_half f (2 ^ n - 1 - 2 ^ i) ≤ℤ even_half f (2 ^ n - 1)
    even_climbs i h = omega (arith, ints, odd_climbs i h, gain_falls (2 ^ n - 1 - 2 ^ i) (omega (arith, pow_pos n)))

-- the elemental inequalities give the axioms over all pairs
pub polymatroid_of : (n : ℕ) (h : ℕ → ℤ) → h 0 ≡ pos 0 → ElementalsHold n h → IsPolymatroid n h
polymatroid_of n h z e =
    let b : Bends n h = bends_of n h e.mutual_of in
    record {
      empty = z;
      rises = λ s t ht i. omega (arith, ints, falls_inside n (λ s. neg_ℤ (h s)) (climbs_of n h b e.conditional) s t ht i);
      submodular = all_pairs n h b;
    }
