-- Plain elimination (Fourier 1826, Motzkin 1936): the list of rows after each rate, over numbers without bounds, and the ways in
-- which it stops early.
use Rattle.std.specs.Prelude.{◌≡◌, ◌⊎◌, ℕ, ◌+◌, ◌<◌, ◌≤◌, ℤ, pos, ◌<ℤ◌, List, [], ◌∷◌, ◌++◌, length, map, filter, Bool, ◌&&◌, nat_eq, if◌then◌else◌, Contains}
use Rattle.std.specs.List.{flat_map, list_any}
use Rattle.std.specs.Cmp.Lexicographic.{pointwise}
use Rattle.std.specs.Ordering.{int_eq}
use Rattle.std.specs.Int.Signed.{lt_z}
use Rattle.it_space.specs.Rows.{Terms, coefficient}
use Rattle.it_space.specs.Divisors.{lowest_terms}
use Rattle.it_space.specs.Cancelling.{cancelled_row, CancelFits}

-- whether two rows are equal
abbrev pub is_same : Terms → Terms → Bool
is_same xs ys = pointwise (λ (s t : ℕ × ℤ). nat_eq s.0 t.0 && int_eq s.1 t.1) xs ys

-- rows with a further row appended, unless it is zero or one of them
abbrev pub with_row : List Terms → Terms → List Terms
with_row rows [] = rows
with_row rows (t ∷ ts) = if list_any (is_same (t ∷ ts)) rows then rows else rows ++ (t ∷ ts) ∷ []

-- before with further rows appended so in turn, each divided by the greatest common divisor of its coefficients
abbrev pub with_lowest_rows : List Terms → List Terms → List Terms
with_lowest_rows before [] = before
with_lowest_rows before (row ∷ rows) = with_lowest_rows (with_row before (lowest_terms row)) rows

-- rows in order: in lowest terms, without zero rows and duplicates
abbrev pub ordered_rows : List Terms → List Terms
ordered_rows rows = with_lowest_rows [] rows

-- whether the coefficient at a coordinate is above 0
abbrev pub is_positive_at : ℕ → Terms → Bool
is_positive_at at row = lt_z (pos 0) (coefficient row at)

-- whether the coefficient at a coordinate is below 0
abbrev pub is_negative_at : ℕ → Terms → Bool
is_negative_at at row = lt_z (coefficient row at) (pos 0)

-- whether the coefficient at a coordinate is 0
abbrev pub is_zero_at : ℕ → Terms → Bool
is_zero_at at row = int_eq (coefficient row at) (pos 0)

-- a row that is positive at the coordinate, cancelled with each row that is negative there
abbrev pub pairs_of : ℕ → Terms → List Terms → List Terms
pairs_of at up rows = map (cancelled_row at up) (filter (is_negative_at at) rows)

-- each positive row, cancelled with each negative one
abbrev pub cancelled_pairs : ℕ → List Terms → List Terms
cancelled_pairs at rows = flat_map (λ up. pairs_of at up rows) (filter (is_positive_at at) rows)

-- the rows without the coordinate, then the pairs
unfoldable pub results : ℕ → List Terms → List Terms
results at rows = filter (is_zero_at at) rows ++ cancelled_pairs at rows

-- the list after the elimination of the rate at a coordinate
abbrev pub next_list : ℕ → List Terms → List Terms
next_list at rows = ordered_rows (results at rows)

-- the list after the elimination of the rates at some coordinates, one after the other
abbrev pub list_after : List ℕ → List Terms → List Terms
list_after [] rows = rows
list_after (at ∷ ats) rows = list_after ats (next_list at rows)

-- each pair of a positive and a negative row is cancelled within the limit
abbrev pub PairsFit : ℕ → List Terms → Type 0
PairsFit at rows = (up down : Terms) → Contains rows up → Contains rows down → pos 0 <ℤ coefficient up at → coefficient down at <ℤ pos 0 → CancelFits at up down

-- the list after all rates; or a rate after which there are too many rows, or at which a pair isn't cancelled within the limit
pub data EliminatedView : Type 0 where
  Region : (rows : List Terms) → EliminatedView
  Rows : (rate : ℕ) → EliminatedView
  Wide : (rate : ℕ) → EliminatedView

-- end is the result of the elimination of rates from rows in order: the first rate at which a pair isn't cancelled within the limit
-- or, failing that, after which there are more than `most` rows; or the list after all. Rate r is at coordinate `base` + r.
abbrev pub EliminationEnds : ℕ → ℕ → List Terms → List ℕ → EliminatedView → Type 0
EliminationEnds base most rows [] end = end ≡ Region rows
EliminationEnds base most rows (r ∷ rs) end = ((¬ (PairsFit (base + r) rows)) × (end ≡ Wide r))
    ⊎ ((PairsFit (base + r) rows × (most < length (next_list (base + r) rows)) × (end ≡ Rows r))
    ⊎ (PairsFit (base + r) rows × (length (next_list (base + r) rows) ≤ most) × EliminationEnds base most (next_list (base + r) rows) rs end))
