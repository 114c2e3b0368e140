-- No public clause cites this module: the terms of a column on the way to a sum.
use Rattle.std.specs.Prelude.{◌≡◌, ℕ, ◌+◌, ◌*◌, ◌+ℤ◌, drop, ◌<◌, ◌≤◌, ℤ, unsigned_abs, List, length}
use Rattle.it_space.specs.Rows.{Terms, value, row_mass}
use Rattle.it_space.specs.Sums.{number_at}

-- sum is the sum of the first i terms: with the rest it gives the value, and it stays small
pub record IsPriced (terms : Terms) (numbers : List ℤ) (i : ℕ) (sum : ℤ) : Type 0 where
  pub value_is : sum +ℤ value (drop i terms) (number_at numbers) ≡ value terms (number_at numbers)
  pub small : (limit : ℕ) → ((k : ℕ) → k < length numbers → unsigned_abs (number_at numbers k) ≤ limit) → unsigned_abs sum + row_mass (drop i terms) * limit ≤ row_mass terms * limit
