-- A step's operation on a row: its numbers times one factor, less those of another row times another factor.
use Rattle.std.specs.Prelude.{◌≡◌, ℕ, ◌+◌, ◌*◌, ◌+ℤ◌, ◌*ℤ◌, neg_ℤ, ◌<◌, ◌≤◌, ℤ, unsigned_abs, List, length}
use Rattle.it_space.specs.Sums.{number_at}
use Rattle.it_vectors.specs.Sizes.{AreAtMost}

-- a times the number of row at place k, less b times that of by
abbrev pub combined_number : List ℤ → List ℤ → ℤ → ℤ → ℕ → ℤ
combined_number row by a b k = number_at row k *ℤ a +ℤ neg_ℤ (number_at by k *ℤ b)

-- new has width numbers: those of row times a, less those of by times b, all at most limit in absolute value
pub record IsCombined (width limit : ℕ) (row by : List ℤ) (a b : ℤ) (new : List ℤ) : Type 0 where
  pub length_is : length new ≡ width
  pub entries : (k : ℕ) → k < width → number_at new k ≡ combined_number row by a b k
  pub small : (k : ℕ) → k < width → unsigned_abs (number_at new k) ≤ limit

-- bound is at most limit, and bounds the absolute values of a number of row times a less a number of at most y times b
pub record IsBound (row : List ℤ) (a y b limit bound : ℕ) : Type 0 where
  pub most : ℕ
  pub at_most : AreAtMost row most
  pub value_is : bound ≡ most * a + y * b
  pub within : bound ≤ limit
