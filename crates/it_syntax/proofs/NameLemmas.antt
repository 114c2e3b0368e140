-- Names in lists: where one stands, and that they differ.
use Rattle.std.proofs.Common.{◌≡◌, ℕ, suc, ◌<◌, ◌≤◌, Bool, true, false, cond, List, Option, [], ◌∷◌, ◌++◌, length, get_or, Some, None, refl, sym, ap, ◌∙◌, subst, arith, append_assoc, nat_lt, ◌+◌, length-append, Vec, Global, map, not}
use Rattle.std.specs.Prelude.{All, bytes_eq, vec_len}
use Rattle.std.specs.List.{position, position_or_len, list_any, IsDistinct, AllByRecursion, AllZip}
use Rattle.std.proofs.lemmas.List.{length-map, append-nil}
use Rattle.indexmap.specs.IndexSet.{insert_key}
use Rattle.std.proofs.lemmas.List.Elements.{All-nil, All-cons, All-head, All-tail}
use Rattle.std.proofs.lemmas.Slice.Eq.{bytes_eq-Decides}
use Rattle.std.proofs.lemmas.List.Sums.{fails_before_first}
use Rattle.std.proofs.lemmas.Bool.Decides.{nat_tests}
use Rattle.it_space.specs.Spaces.{most_variables}
use Rattle.it_syntax.specs.NamesViews.{index_of, NamesView, AreNames, IsNew}

abbrev place : ℕ → ℕ → Option ℕ
place n m = cond (nat_lt n m) (Some n) None

-- where none is found each fails
pub nowhere_fails : (p : List ℕ → Bool) (xs : List (List ℕ)) (d : List ℕ) → position p xs ≡ None → (k : ℕ) → k < length xs → p (get_or xs k d) ≡ false
nowhere_fails p xs d none k lt = fails_before_first p xs k d (by_test (nat_lt (position_or_len p xs) (length xs)) refl none)
  where
    by_test : (b : Bool) → nat_lt (position_or_len p xs) (length xs) ≡ b → cond b (Some (position_or_len p xs)) None ≡ None → k < position_or_len p xs
    by_test true e h = absurd cc
    by_test false e h = grind (arith, nat_tests)

all_fail : (p : List ℕ → Bool) (xs : List (List ℕ)) → ((k : ℕ) → k < length xs → p (get_or xs k []) ≡ false) → AllByRecursion (λ y. p y ≡ false) xs
all_fail p [] h = tt
all_fail p (x ∷ xs) h = (h 0 (omega arith), all_fail p xs (λ k lt. h (suc k) (omega arith)))

-- a new name differs from each
pub nowhere_all : (name : List ℕ) (xs : List (List ℕ)) → index_of xs name ≡ None → AllByRecursion (λ y. bytes_eq name y ≡ false) xs
nowhere_all name xs none = all_fail (bytes_eq name) xs (nowhere_fails (bytes_eq name) xs [] none)

pub differs_both_ways : (xs ys : List ℕ) → bytes_eq xs ys ≡ false → bytes_eq ys xs ≡ false
differs_both_ways xs ys e = by_test (bytes_eq ys xs) refl
  where
    by_test : (b : Bool) → bytes_eq ys xs ≡ b → b ≡ false
    by_test false h = refl
    by_test true h =
        let same : ys ≡ xs = (bytes_eq-Decides ys xs).0 h in
        let is : bytes_eq xs ys ≡ true = subst (λ (zs : List ℕ). bytes_eq zs ys ≡ true) same (subst (λ (zs : List ℕ). bytes_eq ys zs ≡ true) (sym same) h) in
        absurd cc

all_insert : (p : List ℕ → Bool) (xs ys : List (List ℕ)) (name : List ℕ) → AllByRecursion (λ y. p y ≡ false) (xs ++ ys) → p name ≡ false
    → AllByRecursion (λ y. p y ≡ false) (xs ++ name ∷ ys)
all_insert p [] ys name h e = (e, h)
all_insert p (x ∷ xs) ys name h e = (h.0, all_insert p xs ys name h.1 e)

all_join : (p : List ℕ → Bool) (xs ys : List (List ℕ)) → AllByRecursion (λ y. p y ≡ false) xs → AllByRecursion (λ y. p y ≡ false) ys
    → AllByRecursion (λ y. p y ≡ false) (xs ++ ys)
all_join p [] ys h k = k
all_join p (x ∷ xs) ys h k = (h.0, all_join p xs ys h.1 k)

-- one more name that is none of these
pub distinct_insert : (xs ys : List (List ℕ)) (name : List ℕ) → IsDistinct bytes_eq (xs ++ ys)
    → AllByRecursion (λ y. bytes_eq name y ≡ false) xs → AllByRecursion (λ y. bytes_eq name y ≡ false) ys
    → IsDistinct bytes_eq (xs ++ name ∷ ys)
unfolding IsDistinct
distinct_insert [] ys name d h k = (k, d)
distinct_insert (x ∷ xs) ys name d h k = (all_insert (bytes_eq x) xs ys name d.0 (differs_both_ways name x h.0), distinct_insert xs ys name d.1 h.1 k)

short_insert : (P : List ℕ → Type 0) (xs ys : List (List ℕ)) (name : List ℕ) → All P (xs ++ ys) → P name → All P (xs ++ name ∷ ys)
short_insert P [] ys name h n = All-cons P name ys n h
short_insert P (x ∷ xs) ys name h n = All-cons P x (xs ++ name ∷ ys) (All-head P x (xs ++ ys) h) (short_insert P xs ys name (All-tail P x (xs ++ ys) h) n)

abbrev IsShort : List ℕ → Type 0
IsShort name = (1 ≤ length name) × (length name ≤ 16)

-- ---- one more variable, one more rate, and none
pub with_variable : (v : NamesView) (name : List ℕ) → AreNames v → IsNew v name → 1 ≤ length name → length name ≤ 16
    → length v.variables < most_variables → AreNames (record { variables = v.variables ++ name ∷ []; rates = v.rates })
with_variable v name h new some short few =
    let same : v.variables ++ name ∷ v.rates ≡ (v.variables ++ name ∷ []) ++ v.rates = sym (append_assoc v.variables (name ∷ []) v.rates) in
    record {
      few_variables = omega (arith, length-append v.variables (name ∷ []), few);
      few_rates = h.few_rates;
      short = subst (λ (names : List (List ℕ)). All IsShort names) same (short_insert IsShort v.variables v.rates name h.short (some, short));
      distinct = subst (λ (names : List (List ℕ)). IsDistinct bytes_eq names) same
          (distinct_insert v.variables v.rates name h.distinct (nowhere_all name v.variables new.0) (nowhere_all name v.rates new.1));
    }

pub with_rate : (v : NamesView) (name : List ℕ) → AreNames v → IsNew v name → 1 ≤ length name → length name ≤ 16 → length v.rates < 16
    → AreNames (record { variables = v.variables; rates = v.rates ++ name ∷ [] })
with_rate v name h new some short few =
    let same : (v.variables ++ v.rates) ++ name ∷ [] ≡ v.variables ++ (v.rates ++ name ∷ []) = append_assoc v.variables v.rates (name ∷ []) in
    let all : List (List ℕ) = v.variables ++ v.rates in
    let whole : all ++ [] ≡ all = append-nil all in
    record {
      few_variables = h.few_variables;
      few_rates = omega (arith, length-append v.rates (name ∷ []), few);
      short = subst (λ (names : List (List ℕ)). All IsShort names) same (short_insert IsShort all [] name
          (subst (λ (names : List (List ℕ)). All IsShort names) (sym whole) h.short) (some, short));
      distinct = subst (λ (names : List (List ℕ)). IsDistinct bytes_eq names) same
          (distinct_insert all [] name (subst (λ (names : List (List ℕ)). IsDistinct bytes_eq names) (sym whole) h.distinct)
          (all_join (bytes_eq name) v.variables v.rates (nowhere_all name v.variables new.0) (nowhere_all name v.rates new.1)) tt);
    }

pub no_names : AreNames (record { variables = []; rates = [] })
unfolding IsDistinct
no_names = record { few_variables = omega arith; few_rates = omega arith; short = All-nil IsShort; distinct = tt }

prefix_map : (p : List ℕ → Bool) (vs : List (Vec ℕ Global)) → position_or_len p (map (λ v. v.items) vs) ≡ position_or_len (λ v. p v.items) vs
prefix_map p [] = refl
prefix_map p (v ∷ vs) = ap (λ (n : ℕ). cond (not (p v.items)) (1 + n) 0) (prefix_map p vs)

-- where a name stands among vectors
pub position_map : (p : List ℕ → Bool) (vs : List (Vec ℕ Global)) → position p (map (λ v. v.items) vs) ≡ position (λ v. p v.items) vs
position_map p vs =
    ap (λ (n : ℕ). place n (length (map (λ (v : Vec ℕ Global). v.items) vs))) (prefix_map p vs)
    ∙ ap (λ (n : ℕ). place (position_or_len (λ (v : Vec ℕ Global). p v.items) vs) n) (length-map vs (λ (v : Vec ℕ Global). v.items))

none_any : (name : List ℕ) (vs : List (Vec ℕ Global)) → AllByRecursion (λ y. bytes_eq name y ≡ false) (map (λ v. v.items) vs)
    → list_any (λ v. bytes_eq name v.items) vs ≡ false
none_any name [] h = refl
none_any name (v ∷ vs) h = rw h.0 (none_any name vs h.1)

-- a new name goes last
pub insert_new : (vs : List (Vec ℕ Global)) (v : Vec ℕ Global) → index_of (map (λ w. w.items) vs) v.items ≡ None
    → insert_key (λ x y. bytes_eq x.items y.items) vs v ≡ vs ++ v ∷ []
insert_new vs v none = rw (none_any v.items vs (nowhere_all v.items (map (λ (w : Vec ℕ Global). w.items) vs) none)) refl

-- ---- copies

copied_items : (xs ys : List ℕ) → AllZip (λ x y. y ≡ x) xs ys → ys ≡ xs
copied_items [] [] h = refl
copied_items [] (y ∷ ys) h = absurd h
copied_items (x ∷ xs) [] h = absurd h
copied_items (x ∷ xs) (y ∷ ys) h = let tails = copied_items xs ys h.1 in rw (h.0, tails) refl

-- copied vectors have the same items
pub copied_vectors : (vs ws : List (Vec ℕ Global)) → AllZip (λ v w. AllZip (λ x y. y ≡ x) v.items w.items × (vec_len w ≡ vec_len v)) vs ws
    → map (λ v. v.items) ws ≡ map (λ v. v.items) vs
copied_vectors [] [] h = refl
copied_vectors [] (w ∷ ws) h = absurd h
copied_vectors (v ∷ vs) [] h = absurd h
copied_vectors (v ∷ vs) (w ∷ ws) h = let tails = copied_vectors vs ws h.1 in let heads = copied_items v.items w.items h.0.0 in rw (heads, tails) refl
