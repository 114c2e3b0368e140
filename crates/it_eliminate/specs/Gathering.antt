-- No public clause cites this module: the list after one rate gathered row by row.
use Rattle.std.specs.Prelude.{◌≡◌, ◌⊎◌, ℕ, ℤ, pos, ◌<◌, ◌<ℤ◌, List, [], ◌∷◌, length, map, filter, not, if◌then◌else◌}
use Rattle.std.specs.Global.{Vec}
use Rattle.std.specs.List.{flat_map, AllByRecursion as Every}
use Rattle.it_space.specs.Rows.{Terms, IsCanonical, coefficient}
use Rattle.it_space.specs.Cancelling.{cancelled_row, CancelFits}
use Rattle.it_eliminate.specs.Elimination.{with_lowest_rows, is_positive_at, is_negative_at, is_zero_at}

-- the items of each of some vectors of terms, in order
abbrev pub rows_of : List (Vec (ℕ × ℤ)) → List Terms
rows_of vs = map (λ v. v.items) vs

-- a row if it lacks the coordinate, else none
abbrev pub flat_of : ℕ → Terms → List Terms
flat_of at row = if is_zero_at at row then row ∷ [] else []

-- the rows that have the coordinate, in order
abbrev pub rows_with : ℕ → List Terms → List Terms
rows_with at rows = filter (λ row. not (is_zero_at at row)) rows

-- the row that cancels the coordinate between up and down, if down is negative there
abbrev pub pair_of : ℕ → Terms → Terms → List Terms
pair_of at up down = if is_negative_at at down then cancelled_row at up down ∷ [] else []

-- the rows that cancel the coordinate between up, if it is positive there, and each negative row
abbrev pub up_pairs : ℕ → List Terms → Terms → List Terms
up_pairs at rows up = if is_positive_at at up then flat_map (pair_of at up) rows else []

-- a row cancels with a positive one, if it is negative
abbrev pub DownFits : ℕ → Terms → Terms → Type 0
DownFits at up down = coefficient down at <ℤ pos 0 → CancelFits at up down

-- a row, if it is positive, cancels with each negative one
abbrev pub UpFits : ℕ → List Terms → Terms → Type 0
UpFits at rows up = pos 0 <ℤ coefficient up at → Every (DownFits at up) rows

-- kept is the exact list, or both have more than `most` rows
pub record IsKeptList (most : ℕ) (exact kept : List Terms) : Type 0 where
  pub is : (kept ≡ exact) ⊎ ((most < length kept) × (most < length exact))
  pub canonical : Every IsCanonical kept

-- if old is the kept list of an exact one, new is the kept list of that with the rows more appended in order
pub record Gathers (most : ℕ) (more old new : List Terms) : Type 0 where
  pub keeps : (exact : List Terms) → IsKeptList most exact old → IsKeptList most (with_lowest_rows exact more) new
