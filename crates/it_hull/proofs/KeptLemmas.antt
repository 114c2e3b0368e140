-- The coordinates of the rates that stay: as a loop over the rates builds them, and where they are.
use Rattle.std.proofs.Common.{◌≡◌, inl, inr, ℕ, zero, suc, ◌+◌, ◌-◌, ◌^◌, ◌<◌, ◌≤◌, List, [], ◌∷◌, ◌++◌, map, Bool, true, false, ◌||◌, nat_eq, eq-eqb, if◌then◌else◌, refl, sym, ap, subst, ◌∙◌, arith, append_assoc, append-nil, All, length, slice_index_or}
use Rattle.std.specs.Prelude.{Contains}
use Rattle.std.specs.List.{list_any, AllByRecursion as Every}
use Rattle.std.proofs.lemmas.Bool.{false≢true}
use Rattle.std.proofs.lemmas.Nat.{pow_pos}
use Rattle.std.proofs.lemmas.List.{get_or_default}
use Rattle.it_space.specs.declared.spaces.Space.{Space}
use Rattle.it_space.specs.Spaces.{size_of}
use Rattle.it_space.proofs.EveryLemmas.{all_of, every-map, every-same}
use Rattle.it_eliminate.proofs.MemberLemmas.{Member, every_member, member_mapped, member_of}
use Rattle.it_hull.specs.KeptRates.{kept_coordinates, rates_left}
use Rattle.it_hull.specs.Places.{own_coordinate}

-- ---- as a loop builds them

first_rate : (s : Space) (gone : List ℕ) (rate count : ℕ) → map (λ r. 2 ^ s.variables + r) (rates_left gone rate (suc count))
    ≡ own_coordinate s gone rate ++ map (λ r. 2 ^ s.variables + r) (rates_left gone (rate + 1) count)
first_rate s gone rate count = by_test (list_any (λ r. nat_eq r rate) gone)
  where
    by_test : (b : Bool) → map (λ r. 2 ^ s.variables + r) (if b then rates_left gone (rate + 1) count else rate ∷ rates_left gone (rate + 1) count)
        ≡ (if b then [] else (2 ^ s.variables + rate) ∷ []) ++ map (λ r. 2 ^ s.variables + r) (rates_left gone (rate + 1) count)
    by_test true = refl
    by_test false = refl

pub rate_more : (s : Space) (gone : List ℕ) (i n : ℕ) (xs ys all : List ℕ) → i < n → ys ≡ xs ++ own_coordinate s gone i
    → xs ++ map (λ r. 2 ^ s.variables + r) (rates_left gone i (n - i)) ≡ all
    → ys ++ map (λ r. 2 ^ s.variables + r) (rates_left gone (i + 1) (n - (i + 1))) ≡ all
rate_more s gone i n xs ys all l pushed e =
    let left : n - i ≡ suc (n - (i + 1)) = omega arith in
    ap (λ (zs : List ℕ). zs ++ map (λ r. 2 ^ s.variables + r) (rates_left gone (i + 1) (n - (i + 1)))) pushed
    ∙ append_assoc xs (own_coordinate s gone i) (map (λ r. 2 ^ s.variables + r) (rates_left gone (i + 1) (n - (i + 1))))
    ∙ ap (λ (zs : List ℕ). xs ++ zs) (sym (first_rate s gone i (n - (i + 1))))
    ∙ ap (λ k. xs ++ map (λ r. 2 ^ s.variables + r) (rates_left gone i k)) (sym left) ∙ e

pub rates_done : (s : Space) (gone : List ℕ) (i n : ℕ) (xs all : List ℕ) → n ≤ i
    → xs ++ map (λ r. 2 ^ s.variables + r) (rates_left gone i (n - i)) ≡ all → xs ≡ all
rates_done s gone i n xs all l e = let none : n - i ≡ 0 = omega arith in sym (append-nil xs)
    ∙ ap (λ k. xs ++ map (λ r. 2 ^ s.variables + r) (rates_left gone i k)) (sym none) ∙ e

-- ---- where they are

-- a rate that is left is one of these, and doesn't go
record IsLeft (gone : List ℕ) (from to rate : ℕ) : Type 0 where
  least : from ≤ rate
  below : rate < to
  stays : list_any (λ r. nat_eq r rate) gone ≡ false

are_left : (gone : List ℕ) (from count : ℕ) → Every (IsLeft gone from (from + count)) (rates_left gone from count)
are_left gone from zero = tt
are_left gone from (suc count) = by_test (list_any (λ r. nat_eq r from) gone) refl
    (every-same (IsLeft gone (from + 1) (from + 1 + count)) (IsLeft gone from (from + suc count)) (rates_left gone (from + 1) count)
    (λ rate l. record { least = omega (arith, l.least); below = omega (arith, l.below); stays = l.stays }) (are_left gone (from + 1) count))
  where
    by_test : (b : Bool) → list_any (λ r. nat_eq r from) gone ≡ b → Every (IsLeft gone from (from + suc count)) (rates_left gone (from + 1) count)
        → Every (IsLeft gone from (from + suc count)) (if b then rates_left gone (from + 1) count else from ∷ rates_left gone (from + 1) count)
    by_test true e rest = rest
    by_test false e rest = (record { least = omega arith; below = omega arith; stays = e }, rest)

any_member : (gone : List ℕ) (rate : ℕ) → Member rate gone → list_any (λ r. nat_eq r rate) gone ≡ true
any_member [] rate m = absurd m
any_member (g ∷ gone) rate (inl e) = ap (λ b. b || list_any (λ r. nat_eq r rate) gone) (eq-eqb g rate (sym e))
any_member (g ∷ gone) rate (inr m) = by_test (nat_eq g rate) (any_member gone rate m)
  where
    by_test : (b : Bool) → list_any (λ r. nat_eq r rate) gone ≡ true → (b || list_any (λ r. nat_eq r rate) gone) ≡ true
    by_test true e = refl
    by_test false e = e

pub kept_within : (s : Space) (gone : List ℕ) → Every (λ c. (2 ^ s.variables ≤ c) × (c ≤ size_of s)) (kept_coordinates s gone)
kept_within s gone = every-map (λ c. (2 ^ s.variables ≤ c) × (c ≤ size_of s)) (λ r. 2 ^ s.variables + r) (rates_left gone 0 s.rates)
    (every-same (IsLeft gone 0 (0 + s.rates)) (λ r. (2 ^ s.variables ≤ 2 ^ s.variables + r) × (2 ^ s.variables + r ≤ size_of s)) (rates_left gone 0 s.rates)
    (λ r l. (omega arith, omega (arith, l.below, pow_pos s.variables))) (are_left gone 0 s.rates))

gone_away : (s : Space) (gone : List ℕ) (rate : ℕ) → Contains gone rate → ¬ (Contains (kept_coordinates s gone) (2 ^ s.variables + rate))
gone_away s gone rate g m = by_kept (member_mapped (λ r. 2 ^ s.variables + r) (2 ^ s.variables + rate) (rates_left gone 0 s.rates)
    (member_of (kept_coordinates s gone) (2 ^ s.variables + rate) m))
  where
    by_kept : (x : ℕ) × Member x (rates_left gone 0 s.rates) × (2 ^ s.variables + rate ≡ 2 ^ s.variables + x) → ⊥
    by_kept (x, k, e) =
        let same : x ≡ rate = omega (arith, e) in
        let left = every_member (IsLeft gone 0 (0 + s.rates)) (rates_left gone 0 s.rates) x (are_left gone 0 s.rates) k in
        false≢true (sym (subst (λ r. list_any (λ y. nat_eq y r) gone ≡ false) same left.stays) ∙ any_member gone rate (member_of gone rate g))

-- the first rate that goes isn't among them, and each is a rate's
pub first_away : (s : Space) (gone : List ℕ) → 1 ≤ length gone → ¬ (Contains (kept_coordinates s gone) (2 ^ s.variables + slice_index_or gone 0 0))
first_away s gone some = gone_away s gone (slice_index_or gone 0 0) (
  0,
  omega (arith, some),
  get_or_default gone 0
      (slice_index_or gone 0 0) 0 (omega (arith, some)),
)

pub kept_rates : (s : Space) (gone : List ℕ) → All (λ c. (2 ^ s.variables ≤ c) × (c ≤ size_of s)) (kept_coordinates s gone)
kept_rates s gone = all_of (λ (c : ℕ). (2 ^ s.variables ≤ c) × (c ≤ size_of s)) (kept_coordinates s gone) (kept_within s gone)
