-- Decimal texts.
use Rattle.std.specs.Prelude.{ℕ, ◌+◌, ◌*◌, ◌-◌, List, [], ◌∷◌, Option, Some, None, if◌then◌else◌}
use Rattle.std.specs.Char.{is_ascii_digit}

-- the number of decimal digits after earlier digits with the value n; None where a byte isn't a digit
abbrev pub value_from : ℕ → List ℕ → Option ℕ
value_from n [] = Some n
value_from n (d ∷ ds) = if is_ascii_digit d then value_from (10 * n + (d - 48)) ds else None
