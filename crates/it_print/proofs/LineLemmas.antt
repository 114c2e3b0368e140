-- Steps of texts.
use Rattle.std.proofs.Common.{get_or, ◌&&◌, int_lt, bit_or, length, ◌≡◌, ℕ, ◌<◌, ◌≤◌, ◌*◌, ◌%◌, ◌^◌, ◌-◌, List, ◌∷◌, ◌++◌, ◌+◌, Some, Bool, true, false, if◌then◌else◌, sym, ap, ◌∙◌, arith, append_assoc, append-nil, codes, ◌||◌, drop, [], ℤ, map, filter, cond, refl}
use Rattle.it_space.specs.Answers.{is_nonzero_weight}
use Rattle.it_problems.specs.declared.problems.Origin.{Origin}
use Rattle.std.specs.List.{slice_get}
use Rattle.std.proofs.lemmas.List.{drop_more}
use Rattle.std.proofs.lemmas.Option.{slice_get_within, get_or_from_slice_get}
use Rattle.it_space.specs.Sets.{has_member}
use Rattle.it_space.specs.Spaces.{most_variables}
use Rattle.it_space.proofs.SpaceLemmas.{few_sets}
use Rattle.std.proofs.lemmas.Nat.{pow_below}
use Rattle.std.specs.Fmt.{signed_decimal}
use Rattle.it_syntax.specs.NamesViews.{NamesView}
use Rattle.it_print.specs.Lines.{coordinate_text, each_raises, is_told, joined_texts, members_from, or_zero, pair_texts, sum_text, weight_text}

-- a list's first element, and what is written after it
pub joined_step : (separator : List ℕ) (some wanted : Bool) (text : List ℕ) (rest : List (List ℕ)) (out : List ℕ)
    → (out ++ joined_texts separator some (if wanted then text ∷ [] else [])) ++ joined_texts separator (some || wanted) rest
    ≡ out ++ joined_texts separator some ((if wanted then text ∷ [] else []) ++ rest)
joined_step separator false false text rest out = ap (λ t. t ++ joined_texts separator false rest) (append-nil out)
joined_step separator true false text rest out = ap (λ t. t ++ joined_texts separator true rest) (append-nil out)
joined_step separator false true text rest out = simp (append_assoc, append-nil)
joined_step separator true true text rest out = simp (append_assoc, append-nil)

-- `0` where there is none and nothing stands before
abbrev pub or_zero_unless : Bool → List (List ℕ) → List (List ℕ)
or_zero_unless true texts = texts
or_zero_unless false texts = or_zero texts

-- the weights other than 0, one after the other
abbrev pub weight_texts : List (List ℕ) → List Origin → List (ℕ × ℤ) → List (List ℕ)
weight_texts names origins [] = []
weight_texts names origins (weight ∷ weights) = (if is_nonzero_weight weight then weight_text names origins weight ∷ [] else [])
    ++ weight_texts names origins weights

-- they are the texts of those that aren't 0
weight_texts_by_filter : (names : List (List ℕ)) (origins : List Origin) (weights : List (ℕ × ℤ))
    → weight_texts names origins weights ≡ map (weight_text names origins) (filter is_nonzero_weight weights)
weight_texts_by_filter names origins [] = refl
weight_texts_by_filter names origins (weight ∷ weights) = by_test (is_nonzero_weight weight) (weight_texts_by_filter names origins weights)
  where
    by_test : (b : Bool) → weight_texts names origins weights ≡ map (weight_text names origins) (filter is_nonzero_weight weights)
        → (if b then weight_text names origins weight ∷ [] else []) ++ weight_texts names origins weights
        ≡ map (weight_text names origins) (cond b (weight ∷ filter is_nonzero_weight weights) (filter is_nonzero_weight weights))
    by_test true same = ap (λ texts. weight_text names origins weight ∷ texts) same
    by_test false same = same

-- a sum before its first weight
pub sum_begins : (names : List (List ℕ)) (origins : List Origin) (weights : List (ℕ × ℤ)) (out : List ℕ)
    → out ++ joined_texts (codes " + ") false (or_zero (weight_texts names origins weights)) ≡ out ++ sum_text names origins weights
unfolding sum_text
sum_begins names origins weights out = ap (λ texts. out ++ joined_texts (codes " + ") false (or_zero texts)) (weight_texts_by_filter names origins weights)

-- what a sum still has to write
pub sum_step : (some wanted : Bool) (text : List ℕ) (rest : List (List ℕ)) (out : List ℕ)
    → (out ++ joined_texts (codes " + ") some (if wanted then text ∷ [] else [])) ++ joined_texts (codes " + ") (some || wanted) (or_zero_unless (some || wanted) rest)
    ≡ out ++ joined_texts (codes " + ") some (or_zero_unless some ((if wanted then text ∷ [] else []) ++ rest))
sum_step false false text rest out = ap (λ t. t ++ joined_texts (codes " + ") false (or_zero rest)) (append-nil out)
sum_step true false text rest out = ap (λ t. t ++ joined_texts (codes " + ") true rest) (append-nil out)
sum_step false true text rest out = simp (append_assoc, append-nil)
sum_step true true text rest out = simp (append_assoc, append-nil)

-- the set of the other variables doesn't go below 0
pub others_fit : (i n : ℕ) → i < n → n ≤ most_variables → 1 * 2 ^ i % 4294967296 ≤ 1 * 2 ^ n % 4294967296 - 1
others_fit i n h k = omega (arith, pow_below i n h, few_sets n k)

-- one more name of a set
pub set_step : (names : List (List ℕ)) (i set : ℕ) (name : List ℕ) (some : Bool) (out : List ℕ) → slice_get names i ≡ Some name
    → (out ++ joined_texts (codes ",") some (if has_member set i then name ∷ [] else [])) ++ joined_texts (codes ",") (some || has_member set i) (members_from (i + 1) (drop (i + 1) names) set)
    ≡ out ++ joined_texts (codes ",") some (members_from i (drop i names) set)
set_step names i set name some out e =
    joined_step (codes ",") some (has_member set i) name (members_from (i + 1) (drop (i + 1) names) set) out
    ∙ ap (λ ns. out ++ joined_texts (codes ",") some (members_from i ns set)) (sym (name_is_first names i e))
  where
    name_is_first : (names : List (List ℕ)) (i : ℕ) → slice_get names i ≡ Some name → drop i names ≡ name ∷ drop (i + 1) names
    name_is_first names i e = drop_more names i name (slice_get_within names i name e)
        ∙ ap (λ n. n ∷ drop (i + 1) names) (get_or_from_slice_get names i name name e)

-- whether each variable from i on raises a value, by the first of them and the others
abbrev raises_at : ℕ → (ℕ → ℤ) → ℕ → Bool
raises_at i p s = has_member s i || int_lt (p s) (p (bit_or s (2 ^ i)))

raise_step : (names : List (List ℕ)) (i : ℕ) (p : ℕ → ℤ) (s : ℕ) → i < length names
    → each_raises i (drop i names) p s ≡ (raises_at i p s && each_raises (i + 1) (drop (i + 1) names) p s)
raise_step names i p s h = ap (λ ns. each_raises i ns p s) (drop_more names i [] h)

-- where the first doesn't, not each does
pub raise_stops : (names : List (List ℕ)) (i : ℕ) (p : ℕ → ℤ) (s : ℕ) (all : Bool) → i < length names → each_raises i (drop i names) p s ≡ all
    → raises_at i p s ≡ false → false ≡ all
raise_stops names i p s all h e t = ap (λ b. b && each_raises (i + 1) (drop (i + 1) names) p s) (sym t) ∙ sym (raise_step names i p s h) ∙ e

-- where the first does, the others tell
pub raise_goes : (names : List (List ℕ)) (i : ℕ) (p : ℕ → ℤ) (s : ℕ) (all : Bool) → i < length names → each_raises i (drop i names) p s ≡ all
    → raises_at i p s ≡ true → each_raises (i + 1) (drop (i + 1) names) p s ≡ all
raise_goes names i p s all h e t = ap (λ b. b && each_raises (i + 1) (drop (i + 1) names) p s) (sym t) ∙ sym (raise_step names i p s h) ∙ e

-- one more value of a point
pub pair_step : (v : NamesView) (values : List ℤ) (i : ℕ) (d : ℤ) (some : Bool) (out : List ℕ) → i < length values
    → (out ++ joined_texts (codes " ") some (if is_told v values (i + 1) then (coordinate_text v (i + 1) ++ codes "=" ++ signed_decimal (get_or values i d)) ∷ [] else []))
    ++ joined_texts (codes " ") (some || is_told v values (i + 1)) (pair_texts v (is_told v values) (i + 1 + 1) (drop (i + 1) values))
    ≡ out ++ joined_texts (codes " ") some (pair_texts v (is_told v values) (i + 1) (drop i values))
pair_step v values i d some out h =
    joined_step (codes " ") some (is_told v values (i + 1)) (coordinate_text v (i + 1) ++ codes "=" ++ signed_decimal (get_or values i d))
    (pair_texts v (is_told v values) (i + 1 + 1) (drop (i + 1) values)) out
    ∙ ap (λ xs. out ++ joined_texts (codes " ") some (pair_texts v (is_told v values) (i + 1) xs)) (sym (drop_more values i d h))
