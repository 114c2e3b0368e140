-- The tuple of number k.
use Rattle.std.proofs.Common.{◌≡◌, ℕ, suc, zero, ◌+◌, ◌*◌, ◌^◌, ◌/◌, ◌%◌, ◌<◌, ◌≤◌, List, [], ◌∷◌, ◌++◌, length, get_or, take, map, refl, ap, sym, subst, ◌∙◌, arith, lit<, append-nil, add-one, length-append}
use Rattle.std.specs.List.{flat_map}
use Rattle.std.proofs.lemmas.Nat.{pow_pos}
use Rattle.std.proofs.Math.Nat.{div-lt_iff_lt-mul, mod-lt, mod-add-div', pow-le-pow_left, pow-le-pow_right, pow-suc, pow-succ', pow-zero}
use Rattle.std.proofs.lemmas.List.{map-append, length-map, length-take-le, get_or-map}
use Rattle.std.proofs.lemmas.List.Concat.{get_or-flat_map}
use Rattle.std.proofs.lemmas.Grind.{flat_map-append}
use Rattle.std.proofs.lemmas.Simd.{map-map}
use Rattle.it_polymatroid.specs.Elementals.{span}
use Rattle.it_polymatroid.proofs.Spans.{length-span, get_or-span, length-map-span}
use Rattle.it_contain.specs.Shapes.{all_sets, most_shape_variables, small_sets, tuples}
use Rattle.it_contain.specs.Digits.{digits, tuple_at}

cons_inside : (xs : List ℕ) (x : ℕ) (ts : List (List ℕ))
    → map (λ t. x ∷ t) (flat_map (λ t. map (λ y. t ++ y ∷ []) xs) ts) ≡ flat_map (λ t. map (λ y. t ++ y ∷ []) xs) (map (λ t. x ∷ t) ts)
cons_inside xs x [] = refl
cons_inside xs x (t ∷ ts) =
    map-append (λ s. x ∷ s) (map (λ y. t ++ y ∷ []) xs) (flat_map (λ s. map (λ y. s ++ y ∷ []) xs) ts)
    ∙ ap (λ zs. zs ++ map (λ s. x ∷ s) (flat_map (λ s. map (λ y. s ++ y ∷ []) xs) ts)) (map-map (λ s. x ∷ s) (λ y. t ++ y ∷ []) xs)
    ∙ ap (λ zs. map (λ y. (x ∷ t) ++ y ∷ []) xs ++ zs) (cons_inside xs x ts)

cons_outside : (xs ys : List ℕ) (ts : List (List ℕ))
    → flat_map (λ x. map (λ t. x ∷ t) (flat_map (λ t. map (λ y. t ++ y ∷ []) xs) ts)) ys
    ≡ flat_map (λ t. map (λ y. t ++ y ∷ []) xs) (flat_map (λ x. map (λ t. x ∷ t) ts) ys)
cons_outside xs [] ts = refl
cons_outside xs (z ∷ ys) ts =
    ap (λ zs. zs ++ flat_map (λ x. map (λ t. x ∷ t) (flat_map (λ t. map (λ y. t ++ y ∷ []) xs) ts)) ys) (cons_inside xs z ts)
    ∙ ap (λ zs. flat_map (λ t. map (λ y. t ++ y ∷ []) xs) (map (λ t. z ∷ t) ts) ++ zs) (cons_outside xs ys ts)
    ∙ sym (flat_map-append (λ t. map (λ y. t ++ y ∷ []) xs) (map (λ t. z ∷ t) ts) (flat_map (λ x. map (λ t. x ∷ t) ts) ys))

first_tuples : (xs ys : List ℕ) → flat_map (λ x. map (λ t. x ∷ t) ([] ∷ [])) ys ≡ map (λ y. y ∷ []) ys
first_tuples xs [] = refl
first_tuples xs (y ∷ ys) = ap (λ zs. (y ∷ []) ∷ zs) (first_tuples xs ys)

-- the last member changes fastest
pub tuples_by_last : (xs : List ℕ) (a : ℕ) → tuples xs (suc a) ≡ flat_map (λ t. map (λ y. t ++ y ∷ []) xs) (tuples xs a)
unfolding tuples
tuples_by_last xs zero = first_tuples xs xs ∙ sym (append-nil (map (λ y. y ∷ []) xs))
tuples_by_last xs (suc a) = ap (λ ts. flat_map (λ x. map (λ t. x ∷ t) ts) xs) (tuples_by_last xs a) ∙ cons_outside xs xs (tuples xs a)

length_blocks : {X A : Type 0} (f : X → List A) (n : ℕ) → ((x : X) → length (f x) ≡ n) → (xs : List X) → length (flat_map f xs) ≡ length xs * n
length_blocks f n even [] = omega arith
length_blocks f n even (x ∷ xs) =
    let here = even x in
    let rest = length_blocks f n even xs in
    omega (arith, length-append (f x) (flat_map f xs), here, rest)

pub length_tuples : (xs : List ℕ) (a : ℕ) → length (tuples xs a) ≡ length xs ^ a
unfolding tuples
length_tuples xs zero = sym (pow-zero (length xs))
length_tuples xs (suc a) =
    length_blocks (λ x. map (λ t. x ∷ t) (tuples xs a)) (length (tuples xs a)) (λ x. length-map (tuples xs a) (λ t. x ∷ t)) xs
    ∙ ap (λ n. length xs * n) (length_tuples xs a) ∙ sym (pow-succ' (length xs) a)

at_blocks : {X A : Type 0} (f : X → List A) (n : ℕ) → ((x : X) → length (f x) ≡ n) → (xs : List X) (q r : ℕ) (e : X) (d : A) → q < length xs → r < n
    → get_or (flat_map f xs) (q * n + r) d ≡ get_or (f (get_or xs q e)) r d
at_blocks f n even xs q r e d lt small =
    let le : q ≤ length xs = omega arith in
    let before : length (flat_map f (take q xs)) ≡ q * n = length_blocks f n even (take q xs) ∙ ap (λ k. k * n) (length-take-le q xs le) in
    let own = even (get_or xs q e) in
    ap (λ k. get_or (flat_map f xs) (k + r) d) (sym before) ∙ get_or-flat_map f xs q r e d lt (omega (arith, own))

pub at_tuples : (xs : List ℕ) (a k : ℕ) → 0 < length xs → k < length xs ^ a → get_or (tuples xs a) k [] ≡ tuple_at xs a k
unfolding tuples
at_tuples xs zero k some lt = let z : k ≡ 0 = omega (arith, pow-zero (length xs)) in ap (λ n. get_or ([] ∷ []) n []) z
at_tuples xs (suc a) k some lt =
    let m = length xs in
    let prefix : k / length xs < length xs ^ a = (div-lt_iff_lt-mul some).1 (subst (λ n. k < n) (pow-suc (length xs) a) lt) in
    let small : k % length xs < length xs = mod-lt k some in
    let far : k / length xs < length (tuples xs a) = omega (arith, length_tuples xs a) in
    let parts : k ≡ k / length xs * length xs + k % length xs = omega (arith, mod-add-div' k (length xs)) in
    ap (λ ts. get_or ts k []) (tuples_by_last xs a)
    ∙ ap (λ n. get_or (flat_map (λ t. map (λ y. t ++ y ∷ []) xs) (tuples xs a)) n []) parts
    ∙ at_blocks (λ t. map (λ y. t ++ y ∷ []) xs) (length xs) (λ t. length-map xs (λ y. t ++ y ∷ [])) (tuples xs a) (k / length xs)
    (k % length xs) [] [] far small
    ∙ get_or-map (λ y. get_or (tuples xs a) (k / length xs) [] ++ y ∷ []) xs (k % length xs) 0 [] small
    ∙ ap (λ t. t ++ get_or xs (k % length xs) 0 ∷ []) (at_tuples xs a (k / length xs) some prefix)
    ∙ sym (map-append (λ d. get_or xs d 0) (digits (length xs) a (k / length xs)) (k % length xs ∷ []))

pub length_small_sets : (n : ℕ) → length (small_sets n) ≡ n + 1
unfolding small_sets
length_small_sets n = let e = length-map-span (λ i. 2 ^ i) 0 n in omega (arith, e)

pub length_all_sets : (n : ℕ) → length (all_sets n) ≡ 2 ^ n
unfolding all_sets
length_all_sets n = length-span 0 (2 ^ n)

pub first_small_set : (n : ℕ) → get_or (small_sets n) 0 0 ≡ 0
unfolding small_sets
first_small_set n = refl

pub at_small_sets : (n i : ℕ) → i < n → get_or (small_sets n) (i + 1) 0 ≡ 2 ^ i
unfolding small_sets
at_small_sets n i lt =
    let far : i < length (span 0 n) = omega (arith, length-span 0 n) in
    let it = get_or-span 0 n i 0 lt in
    let e : get_or (span 0 n) i 0 ≡ i = omega (arith, it) in
    ap (λ k. get_or (small_sets n) k 0) (add-one i) ∙ get_or-map (λ k. 2 ^ k) (span 0 n) i 0 0 far ∙ ap (λ k. 2 ^ k) e

pub at_all_sets : (n d : ℕ) → d < 2 ^ n → get_or (all_sets n) d 0 ≡ d
unfolding all_sets
at_all_sets n d lt = let e = get_or-span 0 (2 ^ n) d 0 lt in omega (arith, e)

pub first_set : (n : ℕ) → get_or (all_sets n) 0 0 ≡ 0
first_set n = at_all_sets n 0 (pow_pos n)

pub few_sets : (n : ℕ) → n ≤ most_shape_variables → 2 ^ n ≤ 2 ^ most_shape_variables
few_sets n le = pow-le-pow_right (lit< tt) le

pub few_tuples : (m a : ℕ) → m ≤ 2 ^ most_shape_variables → a ≤ 4 → m ^ a < 2 ^ 64
few_tuples m a few parts =
    let base : m ^ a ≤ (2 ^ most_shape_variables) ^ a = pow-le-pow_left few a in
    let whole : (2 ^ most_shape_variables) ^ a ≤ (2 ^ most_shape_variables) ^ 4 = pow-le-pow_right (lit< tt) parts in
    omega (arith, base, whole)
