-- Tables as lists of rows: the number at a place.
use Rattle.std.specs.Prelude.{ℕ, List, [], slice_index_or, pos}
use Rattle.it_rational.specs.Rational.{Rational, integer}

-- the rational number 0
unfoldable pub zero_rational : Rational
zero_rational = integer (pos 0)

-- the number at a place, 0 past the end
abbrev pub entry_at : List Rational → ℕ → Rational
entry_at row k = slice_index_or row k zero_rational

-- row i, empty past the end
abbrev pub row_at : List (List Rational) → ℕ → List Rational
row_at rows i = slice_index_or rows i []
