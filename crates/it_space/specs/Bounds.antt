-- A bound on rows from a question file.
use Rattle.std.specs.Prelude.{ℕ, ◌^◌, ◌≤◌}
use Rattle.it_space.specs.Rows.{Terms, row_mass}

-- the most that the coefficients of a row from a file are together, in absolute value: a relation has at most 256 terms, each a sum of
-- at most four entropies, whose coefficients are at most 2 ^ 96
abbrev pub most_mass : ℕ
most_mass = 2 ^ 106

-- the row's coefficients are together no more than that
abbrev pub IsSmall : Terms → Type 0
IsSmall row = row_mass row ≤ most_mass
