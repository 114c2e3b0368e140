-- Elemental inequalities and their numbers.
use Rattle.std.proofs.Common.{◌≡◌, ℕ, zero, suc, ◌+◌, ◌-◌, ◌*◌, ◌/◌, ◌%◌, ◌^◌, ◌<◌, ◌≤◌, ◌⊎◌, inl, inr, length, get_or, refl, sym, ap, ap₂, subst, ◌∙◌, arith, mod-lt}
use Rattle.std.proofs.lemmas.Bool.{cases_lt}
use Rattle.std.proofs.lemmas.Nat.{pow_pos, div-mul-add, mod-mul-add}
use Rattle.it_polymatroid.specs.Elementals.{Elemental, Conditional, Mutual, elementals, elemental_at}
use Rattle.it_space.proofs.EveryLemmas.{all_of}
use Rattle.it_elemental.specs.Places.{index_pairs, with_zero}
use Rattle.it_elemental.specs.Views.{IsElemental}
use Rattle.it_elemental.proofs.PairLemmas.{pairs_ascend, IsWalk, walk-start, walk-more, walk-end, IsCounted, counted-start, counted-more, counted-end}
use Rattle.it_elemental.proofs.PlaceLemmas.{length-elementals, elemental_at-conditional, elemental_at-mutual, found_place, quotient_and_rest}
use Rattle.it_elemental.specs.Indexes.{pairs_before, elemental_index, IndexesAreTold, InequalitiesAreListedOnce, without_digit}

pairs_are_counted : (n i : ℕ) → i ≤ n → IsCounted n i (pairs_before n i)
pairs_are_counted n zero h = counted-start n
pairs_are_counted n (suc i) h = let e : i + 1 ≡ suc i = omega arith in
    subst (λ (m : ℕ). IsCounted n m (pairs_before n i + (n - (i + 1)))) e
    (counted-more n i (pairs_before n i) (omega arith) (pairs_are_counted n i (omega arith)))

pub at_index : (n : ℕ) (e : Elemental) → IsElemental n e → (elemental_index n e < length (elementals n)) × (elemental_at n (elemental_index n e) ≡ e)
unfolding elemental_index
at_index n (Conditional i) h = (omega (arith, length-elementals n), elemental_at-conditional n i h)
at_index n (Mutual i j k) h =
    let c = counted-end n i j (pairs_before n i) h.0 h.1 (pairs_are_counted n i (omega (arith, h.0, h.1))) in
    found_place n i j k (pairs_before n i + (j - i - 1)) (2 ^ n / 4) (without_digit i (without_digit j k)) h.0 h.1 h.2 h.3 h.4 c.0 c.1 refl refl

-- the number of a pair, by a walk
abbrev number_of_pair : ℕ → ℕ × ℕ → ℕ
number_of_pair n p = pairs_before n p.0 + (p.1 - p.0 - 1)

number_by_walk : (n place turns left rest : ℕ) → n ≤ left + turns → IsWalk n place left rest → pairs_before n left + rest ≡ place
    → number_of_pair n (get_or (index_pairs n) place (0, 0)) ≡ place
number_by_walk n place zero left rest h w e = absurd (omega (arith, w.below))
number_by_walk n place (suc turns) left rest h w e = by_order (cases_lt rest (n - (left + 1)))
    (λ next. number_by_walk n place turns (left + 1) next (omega arith))
  where
    next_is_suc : left + 1 ≡ suc left
    next_is_suc = omega arith

    difference_is_rest : left + 1 + rest - left - 1 ≡ rest
    difference_is_rest = omega arith

    by_order : (rest < n - (left + 1)) ⊎ (n - (left + 1) ≤ rest)
        → ((next : ℕ) → IsWalk n place (left + 1) next → pairs_before n (left + 1) + next ≡ place
        → number_of_pair n (get_or (index_pairs n) place (0, 0)) ≡ place)
        → number_of_pair n (get_or (index_pairs n) place (0, 0)) ≡ place
    by_order (inl l) ih = ap (number_of_pair n) (walk-end n place left rest w l) ∙ ap (λ m. pairs_before n left + m) difference_is_rest ∙ e
    by_order (inr l) ih = ih (rest - (n - (left + 1))) (walk-more n place left rest (rest - (n - (left + 1))) w (omega arith))
        (ap (λ m. pairs_before n m + (rest - (n - (left + 1)))) next_is_suc ∙ omega (arith, e))

pair_number : (n place : ℕ) → place < length (index_pairs n) → number_of_pair n (get_or (index_pairs n) place (0, 0)) ≡ place
pair_number n place h = number_by_walk n place n 0 place (omega arith) (walk-start n place h) (omega arith)

-- a digit put in and taken out
without_digit-with_zero : (j k : ℕ) → without_digit j (with_zero j k) ≡ k
without_digit-with_zero j k =
    let r : k % 2 ^ j < 2 ^ suc j = remainder_below_next in
    let q : with_zero j k / 2 ^ suc j ≡ k / 2 ^ j = div-mul-add (k / 2 ^ j) (2 ^ suc j) (k % 2 ^ j) r in
    let s : 2 ^ suc j ≡ 2 ^ j * 2 = native.Mathlib.Nat.two-pow-succ j ∙ omega arith in
    ap₂ (λ a b. a * 2 ^ j + b) q (low_digits_stay s) ∙ omega arith
  where
    remainder_below : k % 2 ^ j < 2 ^ j
    remainder_below = mod-lt k (pow_pos j)

    remainder_below_next : k % 2 ^ j < 2 ^ suc j
    remainder_below_next = omega (arith, remainder_below, native.Mathlib.Nat.two-pow-succ j)

    low_digits_stay : 2 ^ suc j ≡ 2 ^ j * 2 → with_zero j k % 2 ^ j ≡ k % 2 ^ j
    low_digits_stay s = let e : with_zero j k ≡ (k / 2 ^ j * 2) * 2 ^ j + k % 2 ^ j = ap (λ m. k / 2 ^ j * m + k % 2 ^ j) s ∙ omega arith
        in ap (λ m. m % 2 ^ j) e ∙ mod-mul-add (k / 2 ^ j * 2) (2 ^ j) (k % 2 ^ j) remainder_below

in_block : (n q r : ℕ) (p : ℕ × ℕ) → q < length (index_pairs n) → r < 2 ^ n / 4 → get_or (index_pairs n) q (0, 0) ≡ p → p.0 < p.1 → p.1 < n
    → number_of_pair n p ≡ q
    → elemental_index n (elemental_at n (n + (q * (2 ^ n / 4) + r))) ≡ n + (q * (2 ^ n / 4) + r)
unfolding elemental_index
in_block n q r p h l is a b e =
    ap (elemental_index n) (elemental_at-mutual n q r p.0 p.1 h l is a b)
    ∙ ap₂ (λ x y. n + x * (2 ^ n / 4) + y) e (ap (without_digit p.0) (without_digit-with_zero p.1 (with_zero p.0 r)) ∙ without_digit-with_zero p.0 r)
    ∙ omega arith

conditional_back : (n i : ℕ) → i < n → elemental_index n (elemental_at n i) ≡ i
unfolding elemental_index
conditional_back n i l = ap (elemental_index n) (elemental_at-conditional n i l)

pub index_back : (n i : ℕ) → i < length (elementals n) → elemental_index n (elemental_at n i) ≡ i
index_back n i h = by_kind (cases_lt i n)
  where
    ascends : (q : ℕ) → q < length (index_pairs n) → ((get_or (index_pairs n) q (0, 0)).0 < (get_or (index_pairs n) q (0, 0)).1)
        × ((get_or (index_pairs n) q (0, 0)).1 < n)
    ascends q l = all_of (λ p. (p.0 < p.1) × (p.1 < n)) (index_pairs n) (pairs_ascend n) q (0, 0) l

    by_kind : (i < n) ⊎ (n ≤ i) → elemental_index n (elemental_at n i) ≡ i
    by_kind (inl l) = conditional_back n i l
    by_kind (inr l) =
        let size : ℕ = 2 ^ n / 4 in
        let place : ℕ = i - n in
        let p = quotient_and_rest place (length (index_pairs n)) size (omega (arith, length-elementals n)) in
        let e : i ≡ n + ((place / size) * size + place % size) = omega (arith, p.1.1.1) in
        let a = ascends (place / size) p.1.0 in
        ap (λ m. elemental_index n (elemental_at n m)) e ∙ in_block n (place / size) (place % size)
        (get_or (index_pairs n) (place / size) (0, 0)) p.1.0 p.1.1.0 refl a.0 a.1 (pair_number n (place / size) p.1.0) ∙ sym e

pub indexes_are_told : IndexesAreTold
indexes_are_told n = (at_index n, index_back n)

pub inequalities_are_listed_once : InequalitiesAreListedOnce
inequalities_are_listed_once n i j h k e = sym (index_back n i h) ∙ ap (elemental_index n) e ∙ index_back n j k
