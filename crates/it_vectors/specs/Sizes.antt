-- How large the numbers of a list are.
use Rattle.std.specs.Prelude.{ℕ, ◌<◌, ◌≤◌, ℤ, unsigned_abs, List, length}
use Rattle.it_space.specs.Sums.{number_at}
use Rattle.it_number.specs.Limit.{signed_limit}

-- each number is at most most in absolute value
abbrev pub AreAtMost : List ℤ → ℕ → Type 0
AreAtMost numbers most = (k : ℕ) → k < length numbers → unsigned_abs (number_at numbers k) ≤ most

-- at most 2 ^ 63 - 1 in absolute value
abbrev pub IsShort : ℤ → Type 0
IsShort z = unsigned_abs z < signed_limit

-- all numbers are below 2 ^ 63 in absolute value
abbrev pub AreShort : List ℤ → Type 0
AreShort numbers = (k : ℕ) → k < length numbers → IsShort (number_at numbers k)
