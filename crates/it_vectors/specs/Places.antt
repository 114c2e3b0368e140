-- The places where a row isn't 0, from each to the next.
use Rattle.std.specs.Prelude.{◌≡◌, ℕ, ◌+◌, ◌<◌, ◌≤◌, ℤ, pos, List, length, slice_index_or}
use Rattle.it_space.specs.Sums.{number_at}

-- row is 0 at each place from `from` up to `to`, `to` excluded
pub record IsNextPlace (row : List ℤ) (from to : ℕ) : Type 0 where
  pub after : from ≤ to
  pub within : to ≤ length row
  pub nulls : (k : ℕ) → from ≤ k → k < to → number_at row k ≡ pos 0

-- next has for each place a later one or itself up to which row is 0, so that going by it meets all places where row isn't 0
pub record AreNextPlaces (row : List ℤ) (next : List ℕ) : Type 0 where
  pub length_is : length next ≡ length row + 1
  pub each : (k : ℕ) → k ≤ length row → IsNextPlace row k (slice_index_or next k 0)
