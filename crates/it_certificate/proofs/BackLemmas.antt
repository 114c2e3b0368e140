-- What is written reads back.
use Rattle.std.proofs.Common.{◌≡◌, ℕ, suc, ◌+◌, ◌*◌, ◌-◌, ◌<◌, ◌≤◌, ◌^◌, ◌==◌, ◌&&◌, ℤ, pos, neg_ℤ, negsuc, List, [], ◌∷◌, length, refl, ap, ◌∙◌, arith, Some, None, option_and_then, option_map, true, false, cond, nat_le, rules, lit<, lit≤}
use Rattle.std.specs.Fmt.{decimal, signed_decimal}
use Rattle.std.specs.Str.Parse.{IsNumeral, AllDigits, digits_value_after}
use Rattle.std.specs.Char.{digit_value, is_ascii_digit}
use Rattle.std.proofs.lemmas.Fmt.{decimal_is_IsNumeral_wide, length-decimal-le_wide}
use Rattle.std.proofs.lemmas.Str.{digit_value_digit}
use Rattle.std.proofs.lemmas.Str.Parse.{digit_from_value}
use Rattle.it_number.specs.Limit.{IsWithin}
use Rattle.it_number.specs.Decimals.{value_from}
use Rattle.it_certificate.specs.Numerals.{below, magnitude_of, integer_of, count_of_integer, step_of}

digits_read : (n : ℕ) (ds : List ℕ) → AllDigits 10 ds → value_from n ds ≡ Some (digits_value_after 10 n ds)
digits_read n [] all = refl
digits_read n (d ∷ ds) all =
    let range = digit_from_value d all.0 in
    let value = digit_value_digit d range in
    let is : is_ascii_digit d ≡ true = search (rules, range) in
    let same : 10 * n + (d - 48) ≡ n * 10 + digit_value d = omega (arith, value) in
    ap (λ b. cond b (value_from (10 * n + (d - 48)) ds) None) is ∙ ap (λ k. value_from k ds) same ∙ digits_read (n * 10 + digit_value d) ds all.1

below_wide : (n : ℕ) → n < 2 ^ 127 → n < 10 ^ 39
below_wide n lt = let e : 2 ^ 127 ≤ 10 ^ 39 = lit≤ tt in omega (arith, e)

pub magnitude_back : (n : ℕ) → n < 2 ^ 127 → magnitude_of (decimal n) ≡ Some n
unfolding magnitude_of
magnitude_back n lt =
    let wide : n < 10 ^ 64 = omega (arith, below_wide n lt, tens) in
    let numeral = decimal_is_IsNumeral_wide n wide in
    let some : 1 ≤ length (decimal n) = numeral.0.0 in
    let few : length (decimal n) ≤ 39 = length-decimal-le_wide 39 n (lit< tt) (below_wide n lt) wide in
    let test : (nat_le 1 (length (decimal n)) && nat_le (length (decimal n)) 39) ≡ true = search (rules, some, few) in
    let value : value_from 0 (decimal n) ≡ Some n = digits_read 0 (decimal n) numeral.0.1 ∙ ap Some numeral.1 in
    let inside : below (2 ^ 127) n ≡ Some n = search (rules, lt) in
    ap (λ b. cond b (option_and_then (below (2 ^ 127)) (value_from 0 (decimal n))) None) test ∙ ap (option_and_then (below (2 ^ 127))) value ∙ inside
  where
    tens : 10 ^ 39 ≤ 10 ^ 64
    tens = lit≤ tt

no_minus : (n : ℕ) (cs : List ℕ) → IsNumeral 10 cs → integer_of cs ≡ option_map pos (magnitude_of cs)
unfolding integer_of
no_minus n [] numeral = absurd (omega (arith, numeral.0))
no_minus n (c ∷ cs) numeral =
    let range = digit_from_value c numeral.1.0 in
    let not : (c == 45) ≡ false = search (rules, range) in
    ap (λ b. cond b (option_map (λ n. neg_ℤ (pos n)) (magnitude_of cs)) (option_map pos (magnitude_of (c ∷ cs)))) not

pub integer_back : (z : ℤ) → IsWithin z → integer_of (signed_decimal z) ≡ Some z
unfolding integer_of
integer_back (pos n) lt =
    let wide : n < 10 ^ 64 = omega (arith, below_wide n lt, (let e : 10 ^ 39 ≤ 10 ^ 64 = lit≤ tt in e)) in
    no_minus n (decimal n) (decimal_is_IsNumeral_wide n wide).0 ∙ ap (option_map pos) (magnitude_back n lt)
integer_back (negsuc n) lt = ap (option_map (λ n. neg_ℤ (pos n))) (magnitude_back (suc n) lt)

decimal_integer : (n : ℕ) → n < 2 ^ 127 → integer_of (decimal n) ≡ Some (pos n)
decimal_integer n lt = integer_back (pos n) lt

pub count_back : (n : ℕ) → n < 2 ^ 32 → below (2 ^ 32) n ≡ Some n
count_back n lt = search (rules, lt)

pub step_back : (n : ℕ) → n < 2 ^ 32 → step_of (decimal n) ≡ Some n
unfolding step_of
step_back n lt = ap (option_and_then count_of_integer) (decimal_integer n (let e : 2 ^ 32 ≤ 2 ^ 127 = lit≤ tt in omega (arith, lt, e))) ∙ count_back n lt
