-- No public clause cites this module: the sums at a window of consecutive coordinates.
use Rattle.std.specs.Prelude.{◌≡◌, ℕ, zero, ◌+◌, ◌<◌, ◌≤◌, ℤ, pos, ◌+ℤ◌, ◌*ℤ◌, List, length, slice_index_or, ◌&&◌, Option, Some, None, if◌then◌else◌}
use Rattle.it_space.specs.Rows.{Terms, coefficient}
use Rattle.it_elemental.specs.Generators.{Generator}
use Rattle.it_check.specs.NextTerms.{IsZeroBetween}
use Rattle.it_check.specs.Sums.{is_within, sum_within}
use Rattle.it_check.specs.Verdicts.{column}

-- a sum with the product of a and b added; None where there is no sum, or one of these passes the limit
abbrev pub plus_product : Option ℤ → ℤ → ℤ → Option ℤ
plus_product None a b = None
plus_product (Some sum) a b = if is_within (a *ℤ b) && is_within (sum +ℤ a *ℤ b) then Some (sum +ℤ a *ℤ b) else None

-- the same, but where b is 0 the sum itself
abbrev pub plus_some : Option ℤ → ℤ → ℤ → Option ℤ
plus_some sum a (pos zero) = sum
plus_some sum a b = plus_product sum a b

-- how many coordinates a window has
abbrev pub window_length : ℕ
window_length = 16

-- new are the sums old at the window from `start` on with a times the row's coefficients added
abbrev pub AreAdded : Terms → ℤ → ℕ → List (Option ℤ) → List (Option ℤ) → Type 0
AreAdded row a start old new =
    (k : ℕ) → k < window_length → slice_index_or new k None ≡ plus_some (slice_index_or old k None) a (coefficient row (start + k))

-- at the window from `start` on the sums are those of the weights, and past it both sides are 0 before coordinate `next`
pub record AreSums (gs : List Generator) (target weights : Terms) (start : ℕ) (sums : List (Option ℤ)) (next : ℕ) : Type 0 where
  pub long : length sums ≡ window_length
  pub here : (k : ℕ) → k < window_length → slice_index_or sums k None ≡ sum_within (pos 0) weights (column gs (start + k))
  pub later : start + window_length ≤ next
  pub left : IsZeroBetween (start + window_length) next target
  pub right : (c : ℕ) → start + window_length ≤ c → c < next → sum_within (pos 0) weights (column gs c) ≡ Some (pos 0)
