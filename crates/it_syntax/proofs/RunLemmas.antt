-- Runs of bytes of one kind, and the number that digits are.
use Rattle.std.proofs.Common.{◌≡◌, ℕ, zero, suc, ◌+◌, ◌-◌, ◌*◌, ◌<◌, ◌≤◌, Bool, true, false, List, [], ◌∷◌, length, get_or, take, drop, Some, None, cond, IsSomeAnd, refl, arith}
use Rattle.std.specs.Char.{is_ascii_digit}
use Rattle.it_number.specs.Decimals.{value_from}
use Rattle.it_syntax.specs.Spelling.{AreAll, Stops}
use Rattle.std.proofs.lemmas.Bool.Decides.{nat_tests}

-- one more byte of the kind
pub all_more : (f : ℕ → Bool) (xs : List ℕ) (i : ℕ) → i < length xs → AreAll f (take i xs) → f (get_or xs i 0) ≡ true → AreAll f (take (suc i) xs)
all_more f [] i lt h e = tt
all_more f (x ∷ xs) zero lt h e = (e, tt)
all_more f (x ∷ xs) (suc i) lt h e = (h.0, all_more f xs i (omega arith) h.1 e)

-- a byte of another kind
pub stops_at : (f : ℕ → Bool) (xs : List ℕ) (i : ℕ) → i < length xs → f (get_or xs i 0) ≡ false → Stops f (drop i xs)
stops_at f [] i lt e = absurd (omega arith)
stops_at f (x ∷ xs) zero lt e = e
stops_at f (x ∷ xs) (suc i) lt e = stops_at f xs i (omega arith) e

-- the end
pub stops_end : (f : ℕ → Bool) (xs : List ℕ) → Stops f (drop (length xs) xs)
stops_end f [] = tt
stops_end f (x ∷ xs) = stops_end f xs

pub ruleset run_lemmas = (all_more, stops_at, stops_end)

-- one digit more
pub value_step : (n : ℕ) (ds : List ℕ) (i : ℕ) → i < length ds → is_ascii_digit (get_or ds i 0) ≡ true
    → value_from n (drop i ds) ≡ value_from (10 * n + (get_or ds i 0 - 48)) (drop (suc i) ds)
value_step n [] i lt is = absurd (omega arith)
value_step n (d ∷ ds) zero lt is = rw is refl
value_step n (d ∷ ds) (suc i) lt is = value_step n ds i (omega arith) is

-- the next digit is one, and so are those after it
pub digit_step : (ds : List ℕ) (i : ℕ) → i < length ds → AreAll is_ascii_digit (drop i ds)
    → (is_ascii_digit (get_or ds i 0) ≡ true) × (48 ≤ get_or ds i 0) × (get_or ds i 0 ≤ 57) × AreAll is_ascii_digit (drop (suc i) ds)
digit_step [] i lt h = absurd (omega arith)
digit_step (d ∷ ds) zero lt h = let e = h.0 in (e, digit_low d e, digit_high d e, h.1)
  where
    digit_low : (d : ℕ) → is_ascii_digit d ≡ true → 48 ≤ d
    digit_low d e = grind (arith, nat_tests)

    digit_high : (d : ℕ) → is_ascii_digit d ≡ true → d ≤ 57
    digit_high d e = grind (arith, nat_tests)
digit_step (d ∷ ds) (suc i) lt h = digit_step ds i (omega arith) h

-- digits after a number from `most` on make it no smaller
pub value_large : (most n : ℕ) (ds : List ℕ) → AreAll is_ascii_digit ds → most ≤ n → IsSomeAnd (value_from n ds) (λ v. most ≤ v)
value_large most n [] h le = le
value_large most n (d ∷ ds) h le = rw h.0 (value_large most (10 * n + (d - 48)) ds h.1 (omega arith))

-- no digit is left
pub value_end : (n : ℕ) (ds : List ℕ) → value_from n (drop (length ds) ds) ≡ Some n
value_end n [] = refl
value_end n (d ∷ ds) = value_end n ds

-- only digits have a value
pub value_digits : (n : ℕ) (ds : List ℕ) (v : ℕ) → value_from n ds ≡ Some v → AreAll is_ascii_digit ds
value_digits n [] v e = tt
value_digits n (d ∷ ds) v e = by_test (is_ascii_digit d) refl e (value_digits (10 * n + (d - 48)) ds v)
  where
    by_test : (b : Bool) → is_ascii_digit d ≡ b → cond b (value_from (10 * n + (d - 48)) ds) None ≡ Some v
        → (value_from (10 * n + (d - 48)) ds ≡ Some v → AreAll is_ascii_digit ds) → AreAll is_ascii_digit (d ∷ ds)
    by_test true is h more = (is, more h)
    by_test false is h more = absurd cc

-- digits have a value
pub digits_value : (n : ℕ) (ds : List ℕ) → AreAll is_ascii_digit ds → (v : ℕ) × (value_from n ds ≡ Some v)
digits_value n [] h = (n, refl)
digits_value n (d ∷ ds) h = rw h.0 (digits_value (10 * n + (d - 48)) ds h.1)

pub ruleset value_lemmas = (value_step, digit_step, value_large, value_end)
