-- The numbers that are read are within the limit, and lists have the length that is wanted.
use Rattle.std.proofs.Common.{◌≡◌, ℕ, suc, zero, ◌<◌, ◌^◌, ◌==◌, ◌&&◌, ℤ, pos, neg_ℤ, List, [], ◌∷◌, length, refl, ap, sym, subst, ◌∙◌, Option, Some, None, option_and_then, option_map, Bool, true, false, cond, nat_lt, nat_le, rules, codes}
use Rattle.std.specs.Prelude.{All}
use Rattle.std.proofs.lemmas.List.Elements.{All-nil, All-cons}
use Rattle.serde_json.specs.Data.{Data, Items, no_items, item}
use Rattle.serde_json.specs.Find.{get, as_str, as_array}
use Rattle.it_number.specs.Limit.{IsWithin}
use Rattle.it_number.specs.Decimals.{value_from}
use Rattle.it_certificate.specs.Numerals.{below, integer_of, magnitude_of}
use Rattle.std.specs.Option.{option_zip}
use Rattle.it_certificate.specs.Parts.{integer_at, count_at, two_of, all_of, point_at, list_at, of_length, pair_at}

pub and_then_some : {A B : Type 0} (o : Option A) (f : A → Option B) (b : B) → option_and_then f o ≡ Some b → (a : A) × ((o ≡ Some a) × (f a ≡ Some b))
and_then_some None f b is = absurd (cc)
and_then_some (Some a) f b is = (a, (refl, is))

pub map_some : {A B : Type 0} (o : Option A) (f : A → B) (b : B) → option_map f o ≡ Some b → (a : A) × ((o ≡ Some a) × (f a ≡ b))
map_some None f b is = absurd (cc)
map_some (Some a) f b is = (a, (refl, cc))

pub cond_some : {A : Type 0} (t : Bool) (o : Option A) (a : A) → cond t o None ≡ Some a → (t ≡ true) × (o ≡ Some a)
cond_some true o a is = (refl, is)
cond_some false o a is = absurd (cc)

pub all_of_holds : {A : Type 0} (P : A → Type 0) (f : Data → Option A) → ((d : Data) (a : A) → f d ≡ Some a → P a)
    → (ds : Items) (xs : List A) → all_of f ds ≡ Some xs → All P xs
all_of_holds P f each no_items xs is = let e : xs ≡ [] = cc in subst (λ zs. All P zs) (sym e) (All-nil P)
all_of_holds P f each (item d ds) xs is =
    let h = and_then_some (f d) (λ a. option_map (λ rest. a ∷ rest) (all_of f ds)) xs is in
    let k = map_some (all_of f ds) (λ rest. h.0 ∷ rest) xs h.1.1 in
    subst (λ zs. All P zs) k.1.1 (All-cons P h.0 k.0 (each d h.0 h.1.0) (all_of_holds P f each ds k.0 k.1.0))

pub below_limit : (limit n m : ℕ) → below limit n ≡ Some m → m < limit
below_limit limit n m is =
    let h = cond_some (nat_lt n limit) (Some n) m is in
    let e : n ≡ m = let s = h.1 in cc in
    let lt : n < limit = let t = h.0 in search (rules, t) in
    subst (λ k. k < limit) e lt

magnitude_within : (ds : List ℕ) (m : ℕ) → magnitude_of ds ≡ Some m → m < 2 ^ 127
unfolding magnitude_of
magnitude_within ds m is =
    let h = cond_some (nat_le 1 (length ds) && nat_le (length ds) 39) (option_and_then (below (2 ^ 127)) (value_from 0 ds)) m is in
    let k = and_then_some (value_from 0 ds) (below (2 ^ 127)) m h.1 in
    below_limit (2 ^ 127) k.0 m k.1.1

negative_within : (m : ℕ) → m < 2 ^ 127 → IsWithin (neg_ℤ (pos m))
negative_within zero lt = lt
negative_within (suc m) lt = lt

integer_within : (cs : List ℕ) (z : ℤ) → integer_of cs ≡ Some z → IsWithin z
unfolding integer_of
integer_within [] z is = absurd (cc)
integer_within (c ∷ cs) z is = by_test (c == 45) is
  where
    by_test : (t : Bool) → cond t (option_map (λ n. neg_ℤ (pos n)) (magnitude_of cs)) (option_map pos (magnitude_of (c ∷ cs))) ≡ Some z → IsWithin z
    by_test true e = let h = map_some (magnitude_of cs) (λ n. neg_ℤ (pos n)) z e in subst IsWithin h.1.1 (negative_within h.0 (magnitude_within cs h.0 h.1.0))
    by_test false e = let h = map_some (magnitude_of (c ∷ cs)) pos z e in subst IsWithin h.1.1 (magnitude_within (c ∷ cs) h.0 h.1.0)

pub integer_at_within : (d : Data) (z : ℤ) → integer_at d ≡ Some z → IsWithin z
unfolding integer_at
integer_at_within d z is = let h = and_then_some (as_str d) integer_of z is in integer_within h.0 z h.1.1

pub point_within : (n : ℕ) (d : Data) (vs : List ℤ) → point_at n d ≡ Some vs → All IsWithin vs
unfolding point_at
point_within n d vs is =
    let h = and_then_some (list_at integer_at (get (codes "point") d)) (of_length n) vs is in
    let k = and_then_some (option_and_then as_array (get (codes "point") d)) (all_of integer_at) h.0 h.1.0 in
    let m = cond_some (length h.0 == n) (Some h.0) vs h.1.1 in
    let e : h.0 ≡ vs = let s = m.1 in cc in
    subst (λ zs. All IsWithin zs) e (all_of_holds IsWithin integer_at integer_at_within k.0 h.0 k.1.1)

pub point_length : (n : ℕ) (d : Data) (vs : List ℤ) → point_at n d ≡ Some vs → length vs ≡ n
unfolding point_at
point_length n d vs is =
    let h = and_then_some (list_at integer_at (get (codes "point") d)) (of_length n) vs is in
    let m = cond_some (length h.0 == n) (Some h.0) vs h.1.1 in
    let e : h.0 ≡ vs = let s = m.1 in cc in
    let f : length h.0 ≡ n = let t = m.0 in search (rules, t) in
    sym (ap length e) ∙ f

pub pair_some : {A B : Type 0} (o : Option A) (p : Option B) (c : A × B) → option_zip o p ≡ Some c → (o ≡ Some c.0) × (p ≡ Some c.1)
pair_some None p c is = absurd (cc)
pair_some (Some a) None c is = absurd (cc)
pair_some (Some a) (Some b) c is = let e : (a, b) ≡ c = cc in (ap (λ d. Some d.0) e, ap (λ d. Some d.1) e)

pair_within : (d : Data) (t : ℕ × ℤ) → pair_at d ≡ Some t → IsWithin t.1
unfolding pair_at
pair_within d t is =
    let h = and_then_some (option_and_then two_of (as_array d)) (λ p. option_zip (count_at p.0) (integer_at p.1)) t is in
    integer_at_within h.0.1 t.1 (pair_some (count_at h.0.0) (integer_at h.0.1) t h.1.1).1

pub terms_within : (d : Data) (ts : List (ℕ × ℤ)) → list_at pair_at (get (codes "row") d) ≡ Some ts → All (λ t. IsWithin t.1) ts
terms_within d ts is =
    let h = and_then_some (option_and_then as_array (get (codes "row") d)) (all_of pair_at) ts is in
    all_of_holds (λ t. IsWithin t.1) pair_at pair_within h.0 ts h.1.1
