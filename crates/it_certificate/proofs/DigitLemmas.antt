-- Digits of a number that is too large already.
use Rattle.std.proofs.Common.{◌≡◌, ℕ, ◌+◌, ◌*◌, ◌-◌, ◌^◌, ◌<◌, ◌≤◌, List, [], ◌∷◌, drop, length, get_or, refl, ap, ◌∙◌, arith, Bool, true, false, None, option_and_then, cond, rules}
use Rattle.std.proofs.lemmas.List.{drop_more}
use Rattle.std.specs.Char.{is_ascii_digit}
use Rattle.it_number.specs.Decimals.{value_from}
use Rattle.it_certificate.specs.Numerals.{below}

not_within : (n : ℕ) → 2 ^ 127 ≤ n → below (2 ^ 127) n ≡ None
not_within n le = search (rules)

pub too_large : (n : ℕ) (ds : List ℕ) → 2 ^ 127 ≤ n → option_and_then (below (2 ^ 127)) (value_from n ds) ≡ None
too_large n [] le = not_within n le
too_large n (d ∷ ds) le = by_test (is_ascii_digit d) (too_large (10 * n + (d - 48)) ds (omega arith))
  where
    by_test : (b : Bool) → option_and_then (below (2 ^ 127)) (value_from (10 * n + (d - 48)) ds) ≡ None
        → option_and_then (below (2 ^ 127)) (cond b (value_from (10 * n + (d - 48)) ds) None) ≡ None
    by_test true none = none
    by_test false none = refl

digit_passes : (d : ℕ) → 48 ≤ d → d ≤ 57 → is_ascii_digit d ≡ true
digit_passes d low high = search (rules)

pub too_large_from : (ds : List ℕ) (i n d : ℕ) → i < length ds → get_or ds i 0 ≡ d → 48 ≤ d → d ≤ 57 → (10 * n + (d - 48) < 2 ^ 127 → ⊥)
    → option_and_then (below (2 ^ 127)) (value_from n (drop i ds)) ≡ None
too_large_from ds i n d lt at low high large =
    ap (λ zs. option_and_then (below (2 ^ 127)) (value_from n zs)) (drop_more ds i 0 lt ∙ ap (λ z. z ∷ drop (i + 1) ds) at)
    ∙ ap (λ b. option_and_then (below (2 ^ 127)) (cond b (value_from (10 * n + (d - 48)) (drop (i + 1) ds)) None)) (digit_passes d low high)
    ∙ too_large (10 * n + (d - 48)) (drop (i + 1) ds) (search (rules, large))
