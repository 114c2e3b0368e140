-- Least common multiples of denominators.
use Rattle.std.proofs.Common.{◌≡◌, ℕ, ◌+◌, ◌*◌, ◌/◌, ◌^◌, ◌≤◌, ◌<◌, Bool, true, false, cond, nat_eq, nat_lt, List, [], ◌∷◌, ◌++◌, length, map, drop, get_or, All, Some, None, refl, sym, ap, subst, ◌∙◌, arith}
use Rattle.std.specs.Prelude.{◌||◌}
use Rattle.std.proofs.lemmas.Bool.Decides.{nat_tests}
use Rattle.std.proofs.Math.Nat.{div-one, mul-one}
use native.Mathlib.Nat.{le_of_dvd, pos_of_dvd_of_pos}
use Rattle.std.proofs.lemmas.List.Elements.{All-nil, All-cons}
use Rattle.it_space.proofs.ListLemmas.{drop_item}
use Rattle.std.proofs.lemmas.List.{drop_all}
use Rattle.it_space.proofs.OptionLemmas.{some_same}
use Rattle.it_number.specs.Gcd.{lcm}
use Rattle.it_number.proofs.Divisors.{gcd-one, lcm_is, lcm-pos, start_divides}
use Rattle.it_syntax.specs.declared.types.Term.{Term}
use Rattle.it_syntax.specs.Meaning.{RelationView, multiple_from, common_denominator}
use Rattle.it_syntax.specs.Multiples.{most_multiple, multiple_with}

-- a denominator 1 leaves the multiple
pub lcm_one : (m : ℕ) → lcm m 1 ≡ m
unfolding lcm
lcm_one m = ap (λ (g : ℕ). m * 1 / g) (gcd-one m) ∙ div-one (m * 1) ∙ mul-one m

-- one more term at the end
pub multiple-append : (m : ℕ) (ts : List Term) (t : Term) → multiple_from m (ts ++ t ∷ []) ≡ lcm (multiple_from m ts) t.denominator
multiple-append m [] t = refl
multiple-append m (u ∷ ts) t = multiple-append (lcm m u.denominator) ts t

-- a multiple that goes on with one more term
pub one_more_multiple : (m so_far next : ℕ) (ts : List Term) (t : Term) → so_far ≡ multiple_from m ts → next ≡ lcm so_far t.denominator
    → next ≡ multiple_from m (ts ++ t ∷ [])
one_more_multiple m so_far next ts t e h = h ∙ ap (λ (x : ℕ). lcm x t.denominator) e ∙ sym (multiple-append m ts t)

-- ---- one more denominator

pub multiple_with-zero : (m d : ℕ) → d ≡ 0 → None ≡ multiple_with m d
unfolding multiple_with
multiple_with-zero m d e = let t : nat_eq d 0 ≡ true = grind (arith, nat_tests) in rw t refl

pub multiple_within_limit : (m d x : ℕ) → ¬ (d ≡ 0) → x ≡ lcm m d → x ≤ 2 ^ 32 → Some x ≡ multiple_with m d
unfolding multiple_with
multiple_within_limit m d x n e l =
    let t : nat_eq d 0 ≡ false = grind (arith, nat_tests) in
    let k : lcm m d ≤ 2 ^ 32 = subst (λ (y : ℕ). y ≤ 2 ^ 32) e l in
    let u : nat_lt most_multiple (lcm m d) ≡ false = grind (arith, nat_tests) in
    rw (t, u, e) refl

pub multiple_past_limit : (m d : ℕ) → 2 ^ 32 < lcm m d → None ≡ multiple_with m d
unfolding multiple_with
multiple_past_limit m d l =
    let u : nat_lt most_multiple (lcm m d) ≡ true = grind (arith, nat_tests) in
    rw u (by_test (nat_eq d 0))
  where
    by_test : (b : Bool) → None ≡ cond (b || true) None (Some (lcm m d))
    by_test true = refl
    by_test false = refl

-- a multiple that is found is the least common one, at least 1
pub multiple_found : (m d x : ℕ) → 1 ≤ m → Some x ≡ multiple_with m d → (1 ≤ x) × (x ≡ lcm m d)
unfolding multiple_with
multiple_found m d x h e = by_tests (nat_eq d 0) (nat_lt most_multiple (lcm m d)) refl e
  where
    by_tests : (a b : Bool) → nat_eq d 0 ≡ a → Some x ≡ cond (a || b) None (Some (lcm m d)) → (1 ≤ x) × (x ≡ lcm m d)
    by_tests true b t k = absurd cc
    by_tests false true t k = absurd cc
    by_tests false false t k =
        let same = some_same x (lcm m d) k in
        let some : 1 ≤ d = grind (arith, nat_tests) in
        (subst (λ (y : ℕ). 1 ≤ y) (sym same) (lcm-pos m d h some), same)

-- ---- the limit

-- a multiple within the limit
abbrev pub IsMultiple : ℕ → Type 0
IsMultiple k = (1 ≤ k) × (k ≤ 2 ^ 32)

pub one_is_multiple : IsMultiple 1
one_is_multiple = (omega arith, omega arith)

pub multiple_limited : (m d x : ℕ) → 1 ≤ m → multiple_with m d ≡ Some x → IsMultiple (lcm m d)
unfolding multiple_with
multiple_limited m d x h e = by_tests (nat_eq d 0) (nat_lt most_multiple (lcm m d)) refl refl e
  where
    by_tests : (a b : Bool) → nat_eq d 0 ≡ a → nat_lt most_multiple (lcm m d) ≡ b → cond (a || b) None (Some (lcm m d)) ≡ Some x → IsMultiple (lcm m d)
    by_tests true b t u k = absurd cc
    by_tests false true t u k = absurd cc
    by_tests false false t u k =
        let some : 1 ≤ d = grind (arith, nat_tests) in
        let few : lcm m d ≤ 2 ^ 32 = grind (arith, nat_tests) in
        (lcm-pos m d h some, few)

-- if a multiple is within the limit at the end, it is within the limit from the beginning on
pub start_limited : (m : ℕ) (ts : List Term) → IsMultiple (multiple_from m ts) → IsMultiple m
start_limited m ts h =
    let divides = start_divides m (map (λ (t : Term). t.denominator) ts) in
    (pos_of_dvd_of_pos divides h.0, omega (arith, h.1, le_of_dvd h.0 divides))

-- both numbers of a least common multiple other than 0 are at least 1
pub lcm_parts : (m d : ℕ) → 1 ≤ lcm m d → (1 ≤ m) × (1 ≤ d)
lcm_parts m d h = let l = lcm_is m d in (pos_of_dvd_of_pos l.0 h, pos_of_dvd_of_pos l.1 h)

-- the denominators of terms are at least 1
pub denominators_some : (m : ℕ) (ts : List Term) → IsMultiple (multiple_from m ts) → All (λ t. 1 ≤ t.denominator) ts
denominators_some m [] h = All-nil (λ (t : Term). 1 ≤ t.denominator)
denominators_some m (t ∷ ts) h = All-cons (λ (t : Term). 1 ≤ t.denominator) t ts
    (lcm_parts m t.denominator (start_limited (lcm m t.denominator) ts h).0).1 (denominators_some (lcm m t.denominator) ts h)

-- one more denominator is found
pub multiple_not_none : (m d : ℕ) → 1 ≤ d → lcm m d ≤ 2 ^ 32 → None ≡ multiple_with m d → ⊥
multiple_not_none m d h k e = let f = multiple_within_limit m d (lcm m d) (λ z. omega (arith, h, z)) refl k ∙ sym e in absurd cc

-- what is left of the terms gives the whole multiple, which is within the limit
pub record IsMultipleSoFar (first : ℕ) (ts : List Term) (i m : ℕ) : Type 0 where
  pub same : multiple_from m (drop i ts) ≡ multiple_from first ts
  pub small : IsMultiple (multiple_from first ts)

pub multiple_next : (first : ℕ) (ts : List Term) (i m : ℕ) (t : Term) → i < length ts → t ≡ get_or ts i t → IsMultipleSoFar first ts i m
    → (1 ≤ m) × (1 ≤ t.denominator) × (lcm m t.denominator ≤ 2 ^ 32)
multiple_next first ts i m t l e s =
    let rest : multiple_from (lcm m t.denominator) (drop (i + 1) ts)
    ≡ multiple_from first ts = subst (λ xs. multiple_from m xs ≡ multiple_from first ts) (drop_item ts i t l e) s.same in
    let here = start_limited (lcm m t.denominator) (drop (i + 1) ts) (subst IsMultiple (sym rest) s.small) in
    let parts = lcm_parts m t.denominator here.0 in
    (parts.0, parts.1, here.1)

pub multiple_goes_on : (first : ℕ) (ts : List Term) (i m next : ℕ) (t : Term) → i < length ts → t ≡ get_or ts i t
    → next ≡ lcm m t.denominator → IsMultipleSoFar first ts i m → IsMultipleSoFar first ts (i + 1) next
multiple_goes_on first ts i m next t l e h s = record {
  same = ap (λ x. multiple_from x (drop (i + 1) ts)) h ∙ subst (λ xs. multiple_from m xs ≡ multiple_from first ts) (drop_item ts i t l e) s.same;
  small = s.small;
}

pub multiple_done : (first : ℕ) (ts : List Term) (i m : ℕ) → length ts ≤ i → IsMultipleSoFar first ts i m → m ≡ multiple_from first ts
multiple_done first ts i m l s = sym (ap (multiple_from m) (drop_all i ts l)) ∙ s.same

-- the denominators of a relation
pub left_denominators : (r : RelationView) → IsMultiple (common_denominator r) → All (λ t. 1 ≤ t.denominator) r.left
left_denominators r h = denominators_some 1 r.left (start_limited (multiple_from 1 r.left) r.right h)

pub right_denominators : (r : RelationView) → IsMultiple (common_denominator r) → All (λ t. 1 ≤ t.denominator) r.right
right_denominators r h = denominators_some (multiple_from 1 r.left) r.right h
