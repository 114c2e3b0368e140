-- Decimal texts: integers as they stand in reports.
use Rattle.std.specs.Prelude.{ℕ, ◌^◌, ◌==◌, ◌&&◌, ℤ, pos, negsuc, neg_ℤ, List, [], ◌∷◌, length, if◌then◌else◌, Option, Some, None, option_map, option_and_then, nat_le, nat_lt}
use Rattle.it_number.specs.Decimals.{value_from}

-- `n` if it is below `bound`
abbrev pub below : ℕ → ℕ → Option ℕ
below bound n = if nat_lt n bound then Some n else None

-- the value of 1 to 39 digits, if it is within the limit
unfoldable pub magnitude_of : List ℕ → Option ℕ
magnitude_of ds = if nat_le 1 (length ds) && nat_le (length ds) 39 then option_and_then (below (2 ^ 127)) (value_from 0 ds) else None

-- the value of a decimal text: of such digits, or of `-` and such digits after it
unfoldable pub integer_of : List ℕ → Option ℤ
integer_of [] = None
integer_of (c ∷ cs) = if c == 45 then option_map (λ n. neg_ℤ (pos n)) (magnitude_of cs) else option_map pos (magnitude_of (c ∷ cs))

-- an integer that is a count: a number of at most 32 bits
abbrev pub count_of_integer : ℤ → Option ℕ
count_of_integer (pos n) = below (2 ^ 32) n
count_of_integer (negsuc n) = None

-- a count as decimal text
unfoldable pub step_of : List ℕ → Option ℕ
step_of text = option_and_then count_of_integer (integer_of text)
