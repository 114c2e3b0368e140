-- Common variables stand for themselves, and pulled coordinates.
use Rattle.std.proofs.Common.{◌≡◌, ◌≢◌, ℕ, suc, zero, ◌+◌, ◌^◌, ◌<◌, ◌≤◌, List, [], ◌∷◌, ◌++◌, refl, ap, ap₂, sym, subst, ◌∙◌, arith, Bool, true, false, cond, ◌⊎◌, inl, inr, max, bit_or, nat_lt, eqb, lit<, ◌-◌, All, length, length-append, append_assoc, append-nil}
use Rattle.std.specs.Int.{bit_at}
use Rattle.std.proofs.Math.Nat.{eq-or-lt_of_le, pow-le-pow_right}
use Rattle.std.proofs.lemmas.Bool.{cases_lt, eqb-true, le-ltb, lt-ltb}
use Rattle.std.proofs.lemmas.Nat.Bits.{bit_at_or, same_from_bits, bit_at-zero, bit_at-lt, bit_at-pow_same, bit_at-pow_other, bit_at_above}
use Rattle.it_polymatroid.specs.Substitutions.{union_from, union_of_images}
use Rattle.std.proofs.lemmas.List.Elements.{All-nil, All-cons, All-append}
use Rattle.it_space.specs.declared.spaces.Space.{Space}
use Rattle.it_space.specs.Spaces.{size_of}
use Rattle.it_polymatroid.proofs.Images.{union_below}
use Rattle.std.proofs.lemmas.Nat.{pow_pos, pow_below}
use Rattle.it_region.specs.Pulling.{singles, substituted_sets, pulled_coordinate}

below_next_power : (i s : ℕ) → s < 2 ^ i → s < 2 ^ (i + 1)
below_next_power i s lt = let e : 2 ^ i ≤ 2 ^ (i + 1) = pow-le-pow_right (lit< tt) (omega arith) in omega (arith, e)

union_of_none : (i : ℕ) (parts : List ℕ) (s : ℕ) → s < 2 ^ i → union_from i parts s ≡ 0
union_of_none i [] s lt = refl
union_of_none i (x ∷ xs) s lt =
    ap (λ b. bit_or (cond (eqb b 1) x 0) (union_from (i + 1) xs s)) (bit_at_above s i i lt (omega arith))
    ∙ ap (λ u. bit_or 0 u) (union_of_none (i + 1) xs s (below_next_power i s lt))

no_bit : (b : ℕ) → b < 2 → eqb b 1 ≡ false → 0 ≡ b
no_bit zero lt is = refl
no_bit (suc zero) lt is = absurd (cc)
no_bit (suc (suc b)) lt is = absurd (omega arith)

term_same : (s i : ℕ) (b : Bool) → eqb (bit_at s i) 1 ≡ b → bit_at (cond b (2 ^ i) 0) i ≡ bit_at s i
term_same s i true is = bit_at-pow_same i ∙ sym (eqb-true (bit_at s i) 1 is)
term_same s i false is = bit_at-zero i ∙ no_bit (bit_at s i) (bit_at-lt s i) is

term_other : (i j : ℕ) (b : Bool) → j ≢ i → bit_at (cond b (2 ^ i) 0) j ≡ 0
term_other i j true not = bit_at-pow_other i j not
term_other i j false not = bit_at-zero j

bit_from : (i s j : ℕ) → s < 2 ^ i → (j < i) ⊎ (i ≤ j) → 0 ≡ cond (nat_lt j i) 0 (bit_at s j)
bit_from i s j lt (inl below) = ap (λ b. cond b 0 (bit_at s j)) (sym (lt-ltb j i below))
bit_from i s j lt (inr above) = sym (bit_at_above s i j lt above) ∙ ap (λ b. cond b 0 (bit_at s j)) (sym (le-ltb j i above))

union_bit : (i s j t u : ℕ) → t ≡ bit_at (cond (eqb (bit_at s i) 1) (2 ^ i) 0) j → u ≡ cond (nat_lt j (i + 1)) 0 (bit_at s j)
    → (j < i) ⊎ ((j ≡ i) ⊎ (i + 1 ≤ j)) → max t u ≡ cond (nat_lt j i) 0 (bit_at s j)
union_bit i s j t u et eu (inl below) =
    let a : t ≡ 0 = et ∙ term_other i j (eqb (bit_at s i) 1) (λ e. omega (arith, e, below)) in
    let b : u ≡ 0 = eu ∙ ap (λ z. cond z 0 (bit_at s j)) (lt-ltb j (i + 1) (omega arith)) in
    ap₂ max a b ∙ ap (λ z. cond z 0 (bit_at s j)) (sym (lt-ltb j i below))
union_bit i s j t u et eu (inr (inl same)) =
    let a : t ≡ bit_at s j = et ∙ ap (λ k. bit_at (cond (eqb (bit_at s i) 1) (2 ^ i) 0) k) same ∙ term_same s i (eqb (bit_at s i) 1) refl
    ∙ ap (bit_at s) (sym same) in
    let b : u ≡ 0 = eu ∙ ap (λ z. cond z 0 (bit_at s j)) (lt-ltb j (i + 1) (omega arith)) in
    let c : max t u ≡ bit_at s j = omega (arith, a, b) in
    c ∙ ap (λ z. cond z 0 (bit_at s j)) (sym (le-ltb j i (omega arith)))
union_bit i s j t u et eu (inr (inr above)) =
    let a : t ≡ 0 = et ∙ term_other i j (eqb (bit_at s i) 1) (λ e. omega (arith, e, above)) in
    let b : u ≡ bit_at s j = eu ∙ ap (λ z. cond z 0 (bit_at s j)) (le-ltb j (i + 1) above) in
    let c : max t u ≡ bit_at s j = omega (arith, a, b) in
    c ∙ ap (λ z. cond z 0 (bit_at s j)) (sym (le-ltb j i (omega arith)))

below_at_or_above : (j i : ℕ) → (j < i) ⊎ (i ≤ j) → (j < i) ⊎ ((j ≡ i) ⊎ (i + 1 ≤ j))
below_at_or_above j i (inl lt) = inl lt
below_at_or_above j i (inr le) = inr (by_cases (eq-or-lt_of_le le))
  where
    by_cases : (i ≡ j) ⊎ (i < j) → (j ≡ i) ⊎ (i + 1 ≤ j)
    by_cases (inl e) = inl (sym e)
    by_cases (inr lt) = inr (omega arith)

union_bits : (k i : ℕ) (parts : List ℕ) (s j : ℕ) → s < 2 ^ (i + k) → bit_at (union_from i (singles i k ++ parts) s) j ≡ cond (nat_lt j i) 0 (bit_at s j)
union_bits zero i parts s j lt =
    let e : i + 0 ≡ i = omega arith in
    let l : s < 2 ^ i = subst (λ n. s < 2 ^ n) e lt in
    ap (λ u. bit_at u j) (union_of_none i parts s l) ∙ bit_at-zero j ∙ bit_from i s j l (cases_lt j i)
union_bits (suc k) i parts s j lt =
    let e : i + suc k ≡ (i + 1) + k = omega arith in
    bit_at_or (cond (eqb (bit_at s i) 1) (2 ^ i) 0) (union_from (i + 1) (singles (i + 1) k ++ parts) s) j
    ∙ union_bit i s j _ _ refl (union_bits k (i + 1) parts s j (subst (λ n. s < 2 ^ n) e lt)) (below_at_or_above j i (cases_lt j i))

pub common_stay : (common : ℕ) (parts : List ℕ) (s : ℕ) → s < 2 ^ common → union_of_images (substituted_sets common parts) s ≡ s
common_stay common parts s lt = same_from_bits (union_of_images (substituted_sets common parts) s) s (λ j.
    union_bits common 0 parts s j (let e : 0 + common ≡ common = omega arith in subst (λ n. s < 2 ^ n) (sym e) lt)
    ∙ ap (λ z. cond z 0 (bit_at s j)) (le-ltb j 0 (omega arith)))

-- ---- the list of what the variables stand for

singles_within : (n i k : ℕ) → i + k ≤ n → All (λ s. s < 2 ^ n) (singles i k)
singles_within n i zero h = All-nil (λ s. s < 2 ^ n)
singles_within n i (suc k) h = All-cons (λ s. s < 2 ^ n) (2 ^ i) (singles (i + 1) k) (pow_below i n (omega arith)) (singles_within n (i + 1) k (omega arith))

pub sets_within : (n common : ℕ) (parts : List ℕ) → common ≤ n → All (λ s. s < 2 ^ n) parts → All (λ s. s < 2 ^ n) (substituted_sets common parts)
sets_within n common parts h a = All-append (λ s. s < 2 ^ n) (singles 0 common) parts (singles_within n 0 common (omega arith)) a

length-singles : (i k : ℕ) → length (singles i k) ≡ k
length-singles i zero = refl
length-singles i (suc k) = omega (arith, length-singles (i + 1) k)

pub length-sets : (common : ℕ) (parts : List ℕ) → length (substituted_sets common parts) ≡ common + length parts
length-sets common parts = omega (arith, length-append (singles 0 common) parts, length-singles 0 common)

-- ---- pulled coordinates

pub coordinate_of_set : (n m : ℕ) (sets : List ℕ) (c : ℕ) → c < 2 ^ m → pulled_coordinate n m sets c ≡ union_of_images sets c
unfolding pulled_coordinate
coordinate_of_set n m sets c lt = ap (λ b. cond b (union_of_images sets c) (2 ^ n + (c - 2 ^ m))) (lt-ltb c (2 ^ m) lt)

pub coordinate_above_sets : (n m : ℕ) (sets : List ℕ) (c : ℕ) → 2 ^ m ≤ c → pulled_coordinate n m sets c ≡ 2 ^ n + (c - 2 ^ m)
unfolding pulled_coordinate
coordinate_above_sets n m sets c le = ap (λ b. cond b (union_of_images sets c) (2 ^ n + (c - 2 ^ m))) (le-ltb c (2 ^ m) le)

pub coordinate_of_rate : (n m : ℕ) (sets : List ℕ) (r : ℕ) → pulled_coordinate n m sets (2 ^ m + r) ≡ 2 ^ n + r
coordinate_of_rate n m sets r = let le : 2 ^ m ≤ 2 ^ m + r = omega arith in let e : 2 ^ n + ((2 ^ m + r) - 2 ^ m) ≡ 2 ^ n + r = omega arith
    in coordinate_above_sets n m sets (2 ^ m + r) le ∙ e

pub image_up_to : (s : Space) (sets : List ℕ) (c : ℕ) → All (λ x. x < 2 ^ s.variables) sets → union_of_images sets c ≤ size_of s
image_up_to s sets c a = omega (arith, union_below s.variables 0 sets c a)

-- ---- loops that list them

pub singles-more : (old new : List ℕ) (i count : ℕ) → i < count → new ≡ old ++ 2 ^ i ∷ [] → old ++ singles i (count - i) ≡ singles 0 count
    → new ++ singles (i + 1) (count - (i + 1)) ≡ singles 0 count
singles-more old new i count l e h =
    let k : count - i ≡ suc (count - (i + 1)) = omega arith in
    ap (λ (xs : List ℕ). xs ++ singles (i + 1) (count - (i + 1))) e ∙ append_assoc old (2 ^ i ∷ []) (singles (i + 1) (count - (i + 1)))
    ∙ ap (λ j. old ++ singles i j) (sym k) ∙ h

pub singles-end : (now : List ℕ) (i count : ℕ) → count ≤ i → now ++ singles i (count - i) ≡ singles 0 count → now ≡ singles 0 count
singles-end now i count l h = let k : count - i ≡ 0 = omega arith in sym (append-nil now) ∙ ap (λ j. now ++ singles i j) (sym k) ∙ h

-- the empty set stays
pub coordinate_of_empty_set : (n m common : ℕ) (parts : List ℕ) → pulled_coordinate n m (substituted_sets common parts) 0 ≡ 0
coordinate_of_empty_set n m common parts = coordinate_of_set n m (substituted_sets common parts) 0 (pow_pos m) ∙ common_stay common parts 0 (pow_pos common)
