-- No public clause cites this module: the stretches of a row up to a place, on the way to all.
use Rattle.std.specs.Prelude.{ℕ, ◌<◌, ℤ, List, length, slice_index_or}
use Rattle.it_vectors.specs.Places.{IsNextPlace}
use Rattle.it_vectors.specs.Stretches.{end_of_stretches}

-- up to place `to`, row is 0 outside of the stretches that begin at starts
pub record AreStretchesUpTo (row : List ℤ) (starts : List ℕ) (to : ℕ) : Type 0 where
  pub each : (j : ℕ) → j < length starts → IsNextPlace row (end_of_stretches starts j) (slice_index_or starts j 0)
  pub last : IsNextPlace row (end_of_stretches starts (length starts)) to
