-- Rows of whole numbers over one denominator.
use Rattle.std.specs.Prelude.{◌≡◌, ℕ, ◌<◌, ◌≤◌, ℤ, unsigned_abs, List, length}
use Rattle.it_rational.specs.Rational.{Rational, IsRatio}
use Rattle.it_space.specs.Sums.{number_at}
use Rattle.it_number.specs.Limit.{signed_limit}

-- the contracts' view of a row of whole numbers over one denominator
pub record WholeRowView : Type 0 where
  pub numbers : List ℤ
  pub denominator : ℕ

-- row represents the first width numbers of f: each is a whole number within limit over its denominator, which is below 2 ^ 63
pub record IsRow (width limit : ℕ) (f : ℕ → Rational) (row : List ℤ) (denominator : ℕ) : Type 0 where
  pub length_is : length row ≡ width
  pub some : 0 < denominator
  pub low : denominator < signed_limit
  pub named : (k : ℕ) → k < width → IsRatio (f k) (number_at row k) denominator
  pub small : (k : ℕ) → k < width → unsigned_abs (number_at row k) ≤ limit

-- row has width numbers within limit, over a denominator above 0
pub record IsUsable (width limit : ℕ) (row : WholeRowView) : Type 0 where
  pub length_is : length row.numbers ≡ width
  pub some : 0 < row.denominator
  pub small : (k : ℕ) → k < width → unsigned_abs (number_at row.numbers k) ≤ limit
