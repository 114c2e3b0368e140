-- No public clause cites this module: the first term of a row at a coordinate from a given one on.
use Rattle.std.specs.Prelude.{◌≡◌, ◌≢◌, ℕ, ◌<◌, ◌≤◌, nat_lt, ℤ, pos, [], ◌∷◌, Option, Some, None, if◌then◌else◌}
use Rattle.it_space.specs.Rows.{Terms, coefficient}

-- the first term of a list at a coordinate from `from` on
abbrev pub first_from : ℕ → Terms → Option (ℕ × ℤ)
first_from from [] = None
first_from from (t ∷ ts) = if nat_lt t.0 from then first_from from ts else Some t

-- a row has the coefficient 0 at each coordinate from a on, before b
abbrev pub IsZeroBetween : ℕ → ℕ → Terms → Type 0
IsZeroBetween a b row = (c : ℕ) → a ≤ c → c < b → coefficient row c ≡ pos 0

-- t has the least coordinate from `from` on at which the row's coefficient isn't 0, and that coefficient
pub record IsTermFrom (from : ℕ) (row : Terms) (t : ℕ × ℤ) : Type 0 where
  pub late : from ≤ t.0
  pub some : t.1 ≢ pos 0
  pub own : coefficient row t.0 ≡ t.1
  pub before : IsZeroBetween from t.0 row

-- that term, or none where the coefficients are 0 from there on
abbrev pub IsNextTerm : ℕ → Terms → Option (ℕ × ℤ) → Type 0
IsNextTerm from row (Some t) = IsTermFrom from row t
IsNextTerm from row None = (c : ℕ) → from ≤ c → coefficient row c ≡ pos 0
