-- Sums of products modulo a number, and sets built digit by digit.
use Rattle.std.proofs.Common.{◌≡◌, ◌<◌, ◌+◌, ◌*◌, ◌/◌, ◌%◌, ◌^◌, ◌∙◌, ℕ, ◌≤◌, cond, List, length, map, drop, get_or, subst, sym, ap, arith}
use Rattle.std.proofs.Math.Nat.{mod-add-mod, mod-eq_of_lt, mod-lt, mul-add, mul_assoc, mul-zero, add_assoc, add-zero, pow-suc}
use Rattle.std.proofs.Math.Numerals.{suc-eq-add-one}
use Rattle.it_space.specs.Spaces.{most_variables}
use Rattle.it_space.proofs.SpaceLemmas.{few_sets}
use Rattle.std.proofs.lemmas.List.{at_drop_more, drop_all, get_or-map}
use Rattle.std.proofs.lemmas.List.Folds.{list_all-map}
use Rattle.std.specs.List.{list_all}
use Rattle.it_codes.specs.Codes.{functions_of, is_zero_at, value_at, zero_set, vanishes}
use Rattle.it_codes.specs.declared.codes.Variable.{Variable}

-- a further coefficient was added to a sum, which was then reduced
pub value_step : (q : ℕ) (function : List ℕ) (i sum left total : ℕ) → i < length function
    → (sum + value_at q (drop i function) left) % q ≡ total
    → ((sum + get_or function i 0 * (left % q)) % q + value_at q (drop (i + 1) function) (left / q)) % q ≡ total
value_step q function i sum left total lt inv =
    let product = get_or function i 0 * (left % q) in
    let rest = value_at q (drop (i + 1) function) (left / q) in
    mod-add-mod (sum + product) q rest
    ∙ ap (λ n. n % q) (add_assoc sum product rest)
    ∙ ap (λ n. (sum + n) % q) (sym (at_drop_more (λ cs. value_at q cs left) function i 0 lt))
    ∙ inv

-- a remainder is below its divisor
pub remainder_below : (n q : ℕ) → 1 ≤ q → n % q < q
remainder_below n q some = let more : 0 < q = omega arith in mod-lt n more

-- and no coefficient is left
pub value_end : (q : ℕ) (function : List ℕ) (i sum left total : ℕ) → length function ≤ i → sum < q
    → (sum + value_at q (drop i function) left) % q ≡ total → sum ≡ total
value_end q function i sum left total le below inv =
    sym (mod-eq_of_lt below)
    ∙ ap (λ n. n % q) (sym (add-zero sum))
    ∙ ap (λ cs. (sum + value_at q cs left) % q) (sym (drop_all i function le))
    ∙ inv

-- a variable vanishes where each function does
pub all_vanish : (q m : ℕ) (v : Variable) → list_all (λ f. is_zero_at q m f.items) v.functions.items ≡ vanishes q m (functions_of v)
all_vanish q m v = sym (list_all-map (is_zero_at q m) (λ f. f.items) v.functions.items)

-- a further variable was visited
pub set_step : (q m : ℕ) (variables : List (List (List ℕ))) (i : ℕ) (v : List (List ℕ)) (set place total : ℕ) → i < length variables → v ≡ get_or variables i v
    → set + place * zero_set q m (drop i variables) ≡ total
    → set + place * cond (vanishes q m v) 1 0 + place * 2 * zero_set q m (drop (i + 1) variables) ≡ total
set_step q m variables i v set place total lt is inv =
    let rest = zero_set q m (drop (i + 1) variables) in
    let digit = cond (vanishes q m v) 1 0 in
    let twice : place * 2 * rest ≡ place * (2 * rest) = mul_assoc place 2 rest in
    let both : place * (digit + 2 * rest) ≡ place * digit + place * (2 * rest) = mul-add place digit (2 * rest) in
    let front : set + place * digit + place * 2 * rest ≡ set + place * (digit + 2 * rest) = omega arith in
    front
    ∙ ap (λ w. set + place * (cond (vanishes q m w) 1 0 + 2 * rest)) is
    ∙ ap (λ n. set + place * n) (sym (at_drop_more (λ vs. zero_set q m vs) variables i v lt))
    ∙ inv

-- the functions of the variable at a place
pub item_functions : (variables : List Variable) (i : ℕ) (v : Variable) → i < length variables → v ≡ get_or variables i v
    → functions_of v ≡ get_or (map functions_of variables) i (functions_of v)
item_functions variables i v lt is = ap functions_of is ∙ sym (get_or-map functions_of variables i v (functions_of v) lt)

-- and no variable is left
pub set_end : (q m : ℕ) (variables : List (List (List ℕ))) (i set place total : ℕ) → length variables ≤ i
    → set + place * zero_set q m (drop i variables) ≡ total → set ≡ total
set_end q m variables i set place total le inv =
    sym (ap (λ n. set + n) (mul-zero place) ∙ add-zero set)
    ∙ ap (λ vs. set + place * zero_set q m vs) (sym (drop_all i variables le))
    ∙ inv

-- the places of the variables, and the place behind the last one
pub small_place : (i place : ℕ) → i ≤ most_variables → place ≡ 2 ^ i → place ≤ 2 ^ most_variables
small_place i place few is = subst (λ n. n ≤ 2 ^ most_variables) (sym is) (few_sets i few)

-- and the place behind one
pub next_place : (i place : ℕ) → place ≡ 2 ^ i → place * 2 ≡ 2 ^ (i + 1)
next_place i place is = ap (λ n. n * 2) is ∙ sym (pow-suc 2 i) ∙ ap (λ n. 2 ^ n) (suc-eq-add-one i)
