-- No public clause cites this module: the values of rows at maps to rational numbers.
use Rattle.std.specs.Prelude.{ℕ, pos, [], ◌∷◌}
use Rattle.it_rational.specs.Rational.{Rational, plus, times, integer}
use Rattle.it_space.specs.Rows.{Terms}

-- the value of a row at a map from coordinates
abbrev pub rational_value : Terms → (ℕ → Rational) → Rational
rational_value [] h = integer (pos 0)
rational_value (t ∷ ts) h = plus (times (integer t.1) (h t.0)) (rational_value ts h)
