-- A step of the simplex method on a row, stated for the rational numbers that the row represents.
use Rattle.std.specs.Prelude.{◌≡◌, ℕ, ◌*◌, ◌<◌, ℤ, pos, ◌*ℤ◌, ◌≤ℤ◌, unsigned_abs, length}
use Rattle.it_rational.specs.Rational.{Rational, plus, times, minus, inverse, IsRatio}
use Rattle.it_space.specs.Sums.{number_at}
use Rattle.it_whole.specs.WholeRows.{IsRow, IsUsable, WholeRowView}
use Rattle.it_number.specs.Limit.{signed_limit}

-- a row that may leave in a step: it is usable, its entry p at the entering column is above 0, and the limit on numbers is short
pub record IsLeaving (limit : ℕ) (row : WholeRowView) (p : ℤ) : Type 0 where
  pub usable : IsUsable (length row.numbers) limit row
  pub positive : pos 1 ≤ℤ p
  pub limit_is : limit < signed_limit

-- new is old less the multiple of the leaving row own that makes the entry z of old at the column 0, where own has the entry p
abbrev pub IsWholeRowReduced : ℕ → ℕ → WholeRowView → WholeRowView → ℤ → ℤ → WholeRowView → Type 0
IsWholeRowReduced width limit old own z p new = (f g : ℕ → Rational) (x w : Rational)
    → IsRow width limit f old.numbers old.denominator → IsRow width limit g own.numbers own.denominator
    → IsRatio x z old.denominator → IsRatio w p own.denominator
    → IsRow width limit (λ k. plus (f k) (minus (times (g k) (times x (inverse w))))) new.numbers new.denominator

-- new is old reduced as above, and usable; where z is 0, old is unchanged
pub record IsUpdated (width limit : ℕ) (old own : WholeRowView) (z p : ℤ) (new : WholeRowView) : Type 0 where
  pub less : IsWholeRowReduced width limit old own z p new
  pub usable : IsUsable width limit new
  pub kept : z ≡ pos 0 → new ≡ old

-- new is old with its numbers and its denominator divided by a common divisor
pub record IsShortened (old new : WholeRowView) : Type 0 where
  pub shared : ℕ
  pub some : 0 < shared
  pub length_is : length new.numbers ≡ length old.numbers
  pub entries : (k : ℕ) → k < length old.numbers → number_at new.numbers k *ℤ pos shared ≡ number_at old.numbers k
  pub denominator_is : new.denominator * shared ≡ old.denominator

-- new is old divided by its entry p: its numbers over p, divided by a common divisor
abbrev pub IsQuotient : WholeRowView → ℤ → WholeRowView → Type 0
IsQuotient old p new = IsShortened record { numbers = old.numbers; denominator = unsigned_abs p } new
