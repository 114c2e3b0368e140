-- The sets that sets of variables stand for, and polymatroids pulled back.
use Rattle.std.proofs.Common.{◌≡◌, ℕ, zero, suc, ◌+◌, ◌^◌, ◌<◌, ◌≤◌, ◌⊎◌, inl, inr, ℤ, pos, ◌≤ℤ◌, bit_and, bit_or, max, refl, sym, ap, ap₂, subst₂, ◌∙◌, arith, List, [], ◌∷◌, ◌++◌, Bool, true, false, cond, nat_eq, length, drop, get_or, All}
use Rattle.std.proofs.lemmas.Int.{ints}
use Rattle.std.proofs.lemmas.List.{get_or_append_left, get_or-append-add}
use Rattle.std.proofs.lemmas.Bool.{cases_lt}
use Rattle.it_number.specs.Limit.{IsWithin}
use Rattle.it_polymatroid.specs.Tables.{SetFunction, IsTable, value_at}
use Rattle.std.proofs.lemmas.List.Elements.{All-head, All-tail}
use Rattle.std.proofs.lemmas.Nat.{or_lt, and_le_r, pow_pos}
use Rattle.std.proofs.lemmas.Nat.Bits.{bit_at_and, bit_at_or, bit_at-lt, bit_at-zero, same_from_bits}
use Rattle.std.specs.Int.{bit_at}
use Rattle.std.specs.Int.Bits.{or_self, or_zero_l, or_zero_r}
use Rattle.it_space.proofs.ListLemmas.{drop_item}
use Rattle.it_space.specs.Sets.{has_member, IsInside}
use Rattle.it_space.specs.Spaces.{most_variables}
use Rattle.it_space.proofs.SetLemmas.{or_assoc}
use Rattle.it_polymatroid.specs.Polymatroid.{IsPolymatroid}
use Rattle.it_polymatroid.specs.Substitutions.{union_from, union_of_images}

or_swap : (a b c d : ℕ) → bit_or (bit_or a b) (bit_or c d) ≡ bit_or (bit_or a c) (bit_or b d)
or_swap a b c d = same_from_bits _ _ (λ i.
    let p = bit_at_or (bit_or a b) (bit_or c d) i in let q = bit_at_or a b i in let r = bit_at_or c d i in
    let s = bit_at_or (bit_or a c) (bit_or b d) i in let t = bit_at_or a c i in let u = bit_at_or b d i in omega arith)

-- what one variable adds
abbrev pub part : ℕ → ℕ → ℕ → ℕ
part first x s = cond (has_member s first) x 0

-- one variable further
pub union-more : (sets : List ℕ) (s u i x : ℕ) → i < length sets → x ≡ get_or sets i x
    → bit_or u (union_from i (drop i sets) s) ≡ bit_or (bit_or u (part i x s)) (union_from (i + 1) (drop (i + 1) sets) s)
union-more sets s u i x h is =
    ap (λ xs. bit_or u (union_from i xs s)) (drop_item sets i x h is)
    ∙ sym (or_assoc u (part i x s) (union_from (i + 1) (drop (i + 1) sets) s))

-- and at the end
pub union-end : (sets : List ℕ) (s u i : ℕ) → length sets ≤ i → bit_or u (union_from i (drop i sets) s) ≡ union_of_images sets s → u ≡ union_of_images sets s
union-end sets s u i h e = sym (or_zero_r u) ∙ sym (ap (λ xs. bit_or u (union_from i xs s)) (drop_none sets i h)) ∙ e
  where
    drop_none : (xs : List ℕ) (i : ℕ) → length xs ≤ i → drop i xs ≡ []
    drop_none [] zero h = refl
    drop_none [] (suc i) h = refl
    drop_none (x ∷ xs) zero h = absurd (omega arith)
    drop_none (x ∷ xs) (suc i) h = drop_none xs i (omega arith)

-- the empty set stands for itself
part-empty : (first x : ℕ) → part first x 0 ≡ 0
part-empty first x = ap (λ d. cond (nat_eq d 1) x 0) (bit_at-zero first)

union-empty : (first : ℕ) (sets : List ℕ) → union_from first sets 0 ≡ 0
union-empty first [] = refl
union-empty first (x ∷ xs) = ap₂ bit_or (part-empty first x) (union-empty (first + 1) xs) ∙ or_zero_l 0

-- a union stands for the union
part-or : (first x s t : ℕ) → part first x (bit_or s t) ≡ bit_or (part first x s) (part first x t)
part-or first x s t = ap (λ d. cond (nat_eq d 1) x 0) (bit_at_or s t first) ∙ for_each (bit_at s first) (bit_at t first) (bit_at-lt s first) (bit_at-lt t first)
  where
    for_each : (a b : ℕ) → a < 2 → b < 2 → cond (nat_eq (max a b) 1) x 0 ≡ bit_or (cond (nat_eq a 1) x 0) (cond (nat_eq b 1) x 0)
    for_each zero zero h k = sym (or_zero_l 0)
    for_each zero (suc zero) h k = sym (or_zero_l x)
    for_each (suc zero) zero h k = sym (or_zero_r x)
    for_each (suc zero) (suc zero) h k = sym (or_self x)
    for_each (suc (suc a)) b h k = absurd (omega arith)
    for_each a (suc (suc b)) h k = absurd (omega arith)

pub union-or : (first : ℕ) (sets : List ℕ) (s t : ℕ) → union_from first sets (bit_or s t) ≡ bit_or (union_from first sets s) (union_from first sets t)
union-or first [] s t = sym (or_zero_l 0)
union-or first (x ∷ xs) s t = ap₂ bit_or (part-or first x s t) (union-or (first + 1) xs s t)
    ∙ or_swap (part first x s) (part first x t) (union_from (first + 1) xs s) (union_from (first + 1) xs t)

-- images are sets of the other variables
pub union_below : (n first : ℕ) (sets : List ℕ) (s : ℕ) → All (λ x. x < 2 ^ n) sets → union_from first sets s < 2 ^ n
union_below n first [] s a = pow_pos n
union_below n first (x ∷ xs) s a = or_lt n (part first x s) (union_from (first + 1) xs s) (by_test (has_member s first))
    (union_below n (first + 1) xs s (All-tail (λ x. x < 2 ^ n) x xs a))
  where
    by_test : (b : Bool) → cond b x 0 < 2 ^ n
    by_test true = All-head (λ x. x < 2 ^ n) x xs a
    by_test false = pow_pos n

-- members of a union of images
inside_or : (s t : ℕ) → IsInside s t → bit_or s t ≡ t
inside_or s t h = same_from_bits _ _ (λ i. let p = bit_at_or s t i in let q = bit_at_and s t i in let e = ap (λ n. bit_at n i) h in omega arith)

or_inside : (s t : ℕ) → bit_or s t ≡ t → IsInside s t
or_inside s t h = same_from_bits _ _ (λ i. let p = bit_at_or s t i in let q = bit_at_and s t i in let e = ap (λ n. bit_at n i) h in omega arith)

image_inside : (sets : List ℕ) (s t : ℕ) → IsInside s t → IsInside (union_of_images sets s) (union_of_images sets t)
image_inside sets s t h = or_inside (union_of_images sets s) (union_of_images sets t) (sym (union-or 0 sets s t) ∙ ap (union_of_images sets) (inside_or s t h))

pub meet_left : (s t : ℕ) → IsInside (bit_and s t) s
meet_left s t = same_from_bits _ _ (λ i. let p = bit_at_and (bit_and s t) s i in let q = bit_at_and s t i in omega arith)

pub meet_right : (s t : ℕ) → IsInside (bit_and s t) t
meet_right s t = same_from_bits _ _ (λ i. let p = bit_at_and (bit_and s t) t i in let q = bit_at_and s t i in omega arith)

pub inside_meet : (u s t : ℕ) → IsInside u s → IsInside u t → IsInside u (bit_and s t)
inside_meet u s t h k = same_from_bits _ _ (λ i.
    let p = bit_at_and u (bit_and s t) i in let q = bit_at_and s t i in let r = bit_at_and u s i in let v = bit_at_and u t i in
    let e = ap (λ n. bit_at n i) h in let f = ap (λ n. bit_at n i) k in omega arith)

meet_lt : (n s t : ℕ) → t < 2 ^ n → bit_and s t < 2 ^ n
meet_lt n s t h = omega (arith, and_le_r s t)

-- a polymatroid pulled back is a polymatroid
pub pulled_polymatroid : (n m : ℕ) (h g : ℕ → ℤ) (sets : List ℕ) → All (λ x. x < 2 ^ n) sets
    → ((s : ℕ) → s < 2 ^ m → g s ≡ h (union_of_images sets s)) → IsPolymatroid n h → IsPolymatroid m g
pulled_polymatroid n m h g sets a is p = record {
  empty = is 0 (pow_pos m) ∙ ap h (union-empty 0 sets) ∙ p.empty;
  rises = λ s t l i. subst₂ (λ (x y : ℤ). x ≤ℤ y) (sym (is s (omega (arith, i, and_le_r s t)))) (sym (is t l))
      (p.rises (union_of_images sets s) (union_of_images sets t) (image_below t) (image_inside sets s t i));
  submodular = λ s t k l.
      let low : h (union_of_images sets (bit_and s t)) ≤ℤ h (bit_and (union_of_images sets s) (union_of_images sets t)) = p.rises
      (union_of_images sets (bit_and s t)) (bit_and (union_of_images sets s) (union_of_images sets t))
      (meet_lt n (union_of_images sets s) (union_of_images sets t) (image_below t))
      (inside_meet (union_of_images sets (bit_and s t)) (union_of_images sets s) (union_of_images sets t)
      (image_inside sets (bit_and s t) s (meet_left s t)) (image_inside sets (bit_and s t) t (meet_right s t))) in
      let both = p.submodular (union_of_images sets s) (union_of_images sets t) (image_below s) (image_below t) in
      let u : g (bit_or s t) ≡ h (bit_or (union_of_images sets s) (union_of_images sets t)) = is (bit_or s t) (or_lt m s t k l) ∙ ap h (union-or 0 sets s t) in
      let v : g (bit_and s t) ≡ h (union_of_images sets (bit_and s t)) = is (bit_and s t) (meet_lt m s t l) in
      let x : g s ≡ h (union_of_images sets s) = is s k in
      let y : g t ≡ h (union_of_images sets t) = is t l in
      omega (arith, ints, low, both, u, v, x, y);
}
  where
    image_below : (s : ℕ) → union_of_images sets s < 2 ^ n
    image_below s = union_below n 0 sets s a

-- values pushed in order of the sets
pub values-push : (values : List ℤ) (f : ℕ → ℤ) (n : ℕ) (v : ℤ) → length values ≡ n → ((s : ℕ) → s < n → get_or values s (pos 0) ≡ f s) → v ≡ f n
    → (s : ℕ) → s < n + 1 → get_or (values ++ v ∷ []) s (pos 0) ≡ f s
values-push values f n v e h is s l = by_cases (cases_lt s n)
  where
    by_cases : (s < n) ⊎ (n ≤ s) → get_or (values ++ v ∷ []) s (pos 0) ≡ f s
    by_cases (inl k) = get_or_append_left values (v ∷ []) (pos 0) s (omega arith) ∙ h s k
    by_cases (inr k) = let same : s ≡ n = omega arith in let here : s ≡ length values + 0 = omega arith in
        ap (λ m. get_or (values ++ v ∷ []) m (pos 0)) here ∙ get_or-append-add values (v ∷ []) 0 (pos 0) ∙ is ∙ ap f (sym same)

-- the values pulled back are a table
pub pulled_table : (f : SetFunction) (sets : List ℕ) (m : ℕ) (values : List ℤ) → IsTable f → m ≡ length sets → m ≤ most_variables
    → length values ≡ 2 ^ length sets → All IsWithin values
    → ((s : ℕ) → s < 2 ^ length sets → get_or values s (pos 0) ≡ value_at f (union_of_images sets s)) → IsTable (record { variables = m; values = values })
pulled_table f sets m values t e few complete within is = record {
  few = few;
  complete = complete ∙ ap (λ n. 2 ^ n) (sym e);
  empty = is 0 (pow_pos (length sets)) ∙ ap (value_at f) (union-empty 0 sets) ∙ t.empty;
  within = within;
}
