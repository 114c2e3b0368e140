-- Multiples of powers of a base: the exponent for which one is a given total.
use Rattle.std.proofs.Common.{◌≡◌, ◌≤◌, ◌<◌, ◌⊎◌, inl, inr, ◌+◌, ◌*◌, ◌^◌, ◌∙◌, ℕ, zero, suc, ℤ, pos, List, [], ◌∷◌, ◌++◌, length, ap, sym, subst, arith}
use Rattle.std.proofs.Math.Nat.{mul_assoc, mul-le-mul_left, pow-le-pow_right, pow-suc, one-le-pow, one-mul}
use Rattle.std.proofs.Math.Numerals.{suc-eq-add-one}
use Rattle.std.proofs.lemmas.Bool.{cases_order}
use Rattle.std.proofs.Math.ListN.{get_or-append}
use Rattle.std.proofs.lemmas.List.{length-map, get_or_push}
use Rattle.std.proofs.lemmas.List.FromFn.{length-range_with_len}
use Rattle.std.specs.List.{range_with_len}
use Rattle.it_codes.specs.Codes.{CodeView, size, zero_set, zero_sets, kernel_size, IsEntropy, HasEntropy}
use Rattle.it_space.specs.Rows.{point_of}
use Rattle.it_codes.specs.declared.codes.Field.{Field}
use Rattle.it_codes.specs.declared.codes.Field.TheVariants.{Two, Three}

-- a later power is no smaller
grows : (count size h j : ℕ) → 2 ≤ size → h ≤ j → count * size ^ h ≤ count * size ^ j
grows count size h j some le = let positive : 0 < size = omega arith in mul-le-mul_left count (pow-le-pow_right positive le)

-- the next power
pub next_power : (count size h reached : ℕ) → reached ≡ count * size ^ h → reached * size ≡ count * size ^ (h + 1)
next_power count size h reached is = ap (λ n. n * size) is ∙ mul_assoc count (size ^ h) size
    ∙ ap (λ n. count * n) (sym (pow-suc size h) ∙ ap (λ n. size ^ n) (suc-eq-add-one h))

-- the powers before the next one are below a total, where those before this one and this one are
pub below_next : (count size total h reached : ℕ) → reached ≡ count * size ^ h → reached < total → ((j : ℕ) → j < h → count * size ^ j < total)
    → (j : ℕ) → j < h + 1 → count * size ^ j < total
below_next count size total h reached is below before j lt = by_order (cases_order j h)
  where
    by_order : (j ≡ h) ⊎ ((j < h) ⊎ (h < j)) → count * size ^ j < total
    by_order (inl e) = subst (λ n. count * size ^ n < total) (sym e) (subst (λ n. n < total) is below)
    by_order (inr (inl less)) = before j less
    by_order (inr (inr more)) = absurd (omega arith)

-- where those before a power are below a total, and that is above it, none is the total
pub none_reached : (count size total h reached : ℕ) → 2 ≤ size → reached ≡ count * size ^ h → ((j : ℕ) → j < h → count * size ^ j < total) → total < reached
    → (j : ℕ) → ¬ (count * size ^ j ≡ total)
none_reached count size total h reached some is before past j e = by_order (cases_order j h)
  where
    later : h ≤ j → ⊥
    later le = let grown : count * size ^ h ≤ count * size ^ j = grows count size h j some le in omega (arith, grown, is, e, past)

    by_order : (j ≡ h) ⊎ ((j < h) ⊎ (h < j)) → ⊥
    by_order (inl same) = later (omega arith)
    by_order (inr (inl less)) = let below : count * size ^ j < total = before j less in omega (arith, below, e)
    by_order (inr (inr more)) = later (omega arith)

-- a total is one power at most
pub one_power : (count size total h j : ℕ) → 2 ≤ size → 1 ≤ total → count * size ^ h ≡ total → count * size ^ j ≡ total → h ≡ j
one_power count size total h j some positive e f = by_order (cases_order h j)
  where
    climbs : (a b : ℕ) → a < b → count * size ^ a ≡ total → count * size ^ b ≡ total → ⊥
    climbs a b lt ea eb =
        let grown : count * size ^ (a + 1) ≤ count * size ^ b = grows count size (a + 1) b some (omega arith) in
        let next : total * size ≡ count * size ^ (a + 1) = next_power count size a total (sym ea) in
        let twice : total * 2 ≤ total * size = mul-le-mul_left total some in
        omega (arith, grown, next, twice, eb, positive)

    by_order : (h ≡ j) ⊎ ((h < j) ⊎ (j < h)) → h ≡ j
    by_order (inl same) = same
    by_order (inr (inl less)) = absurd (climbs h j less e f)
    by_order (inr (inr more)) = absurd (climbs j h more f e)

-- a field has two elements or three
pub two_elements : (f : Field) → 2 ≤ size f
two_elements Two = omega arith
two_elements Three = omega arith

pub three_elements : (f : Field) → size f ≤ 3
three_elements Two = omega arith
three_elements Three = omega arith

-- there is a message, whose number is 0
pub some_message : (f : Field) (k : ℕ) → 1 ≤ size f ^ k
some_message f k = one-le-pow k (size f) (let two : 2 ≤ size f = two_elements f in omega arith)

-- there is a set for each message
pub zero_set_count : (q k : ℕ) (variables : List (List (List ℕ))) → length (zero_sets q k variables) ≡ q ^ k
zero_set_count q k variables = length-map (range_with_len 0 (q ^ k)) (λ m. zero_set q m variables) ∙ length-range_with_len 0 (q ^ k)

-- a set of variables has one entropy at most
pub one_entropy : (code : CodeView) (s h j : ℕ) → IsEntropy code s h → IsEntropy code s j → h ≡ j
one_entropy code s h j e f = one_power (kernel_size code s) (size code.field) (size code.field ^ code.symbols) h j (two_elements code.field)
    (some_message code.field code.symbols) e f

-- what is true of all sets below one and of that is true of all up to it
pub one_more_set : (P : ℕ → Type 0) (n : ℕ) → ((s : ℕ) → 1 ≤ s → s < n → P s) → P n → (s : ℕ) → 1 ≤ s → s < n + 1 → P s
one_more_set P n before here s from below = by_order (cases_order s n)
  where
    by_order : (s ≡ n) ⊎ ((s < n) ⊎ (n < s)) → P s
    by_order (inl e) = subst P (sym e) here
    by_order (inr (inl less)) = before s from less
    by_order (inr (inr more)) = absurd (omega arith)

-- the entropy of a further set is appended
pub more_entropies : (code : CodeView) (values : List ℤ) (n h : ℕ) → length values + 1 ≡ n
    → ((s : ℕ) → 1 ≤ s → s < n → HasEntropy code 1 values s) → IsEntropy code n h
    → (s : ℕ) → 1 ≤ s → s < n + 1 → HasEntropy code 1 (values ++ pos h ∷ []) s
more_entropies code values n h len before is = one_more_set (HasEntropy code 1 (values ++ pos h ∷ [])) n
    (λ s from below. kept s from below (before s from below)) (here n len is)
  where
    kept : (s : ℕ) → 1 ≤ s → s < n → HasEntropy code 1 values s → HasEntropy code 1 (values ++ pos h ∷ []) s
    kept zero from below (x, e, holds) = absurd (omega arith)
    kept (suc c) from below (x, e, holds) = (x, get_or-append values (pos h ∷ []) (pos 0) c (omega arith) ∙ e, holds)

    here : (m : ℕ) → length values + 1 ≡ m → IsEntropy code m h → HasEntropy code 1 (values ++ pos h ∷ []) m
    here zero e holds = absurd (omega arith)
    here (suc c) e holds = (h, get_or_push values (pos h) (pos 0) c (omega arith) ∙ ap pos (sym (one-mul h)), holds)

-- a value that is no multiple of a set's entropy
pub other_value : (code : CodeView) (times : ℕ) (values : List ℤ) (s h : ℕ) (value : ℤ) → value ≡ point_of values s → IsEntropy code s h
    → (value ≡ pos (times * h) → ⊥) → HasEntropy code times values s → ⊥
other_value code times values s h value at holds differs has =
    differs (at ∙ has.1 ∙ ap (λ j. pos (times * j)) (sym (one_entropy code s h has.0 holds has.2)))
