-- Stretches of places outside of which a row is 0.
use Rattle.std.specs.Prelude.{ℕ, zero, suc, ◌+◌, ◌<◌, ℤ, List, length, slice_index_or}
use Rattle.it_vectors.specs.Places.{IsNextPlace}

-- how many places a stretch has
abbrev pub stretch_length : ℕ
stretch_length = 8

-- where the last of the first j stretches ends, of the stretches that begin at starts; 0 for j = 0
abbrev pub end_of_stretches : List ℕ → ℕ → ℕ
end_of_stretches starts zero = 0
end_of_stretches starts (suc j) = slice_index_or starts j 0 + stretch_length

-- row is 0 before the last of starts, outside of the stretches that begin at the others
pub record AreStretches (row : List ℤ) (starts : List ℕ) : Type 0 where
  pub some : 0 < length starts
  pub each : (j : ℕ) → j < length starts → IsNextPlace row (end_of_stretches starts j) (slice_index_or starts j 0)
