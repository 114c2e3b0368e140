-- The row that says that a number num over den is a factor between two rows: num times the left one less den times the right one.
use Rattle.std.specs.Prelude.{◌≡◌, ℕ, ◌≤◌, ℤ, ◌-ℤ◌, ◌*ℤ◌, map, Bool, not, ◌&&◌, Option, Some, None, Result, Ok, Err}
use Rattle.std.specs.List.{find}
use Rattle.it_number.specs.Limit.{IsWithin}
use Rattle.it_space.specs.Rows.{Terms, IsOver, coefficient}
use Rattle.it_space.specs.Sums.{terms_from}
use Rattle.it_polymatroid.specs.Elementals.{span}
use Rattle.it_check.specs.Sums.{is_within}
use Rattle.it_ratio.specs.declared.sides.RowStop.{RowStop}
use Rattle.it_ratio.specs.declared.sides.RowStop.TheVariants as stops

-- the coefficient at c of that row
abbrev pub side_number : ℤ → ℤ → Terms → Terms → ℕ → ℤ
side_number num den left right c = num *ℤ coefficient left c -ℤ den *ℤ coefficient right c

-- the row, over size coordinates
unfoldable pub side_row : ℕ → ℤ → ℤ → Terms → Terms → Terms
side_row size num den left right = terms_from 1 (map (side_number num den left right) (span 1 size))

-- ---- within the limit

-- a coefficient and its two products are within the limit
pub record NumberFits (num den : ℤ) (left right : Terms) (c : ℕ) : Type 0 where
  pub left_times : IsWithin (num *ℤ coefficient left c)
  pub right_times : IsWithin (den *ℤ coefficient right c)
  pub difference : IsWithin (side_number num den left right c)

-- all coefficients and their products are within the limit
abbrev pub SideFits : ℕ → ℤ → ℤ → Terms → Terms → Type 0
SideFits size num den left right = (c : ℕ) → 1 ≤ c → c ≤ size → NumberFits num den left right c

-- whether a coefficient and its two products are within the limit
abbrev pub is_formed : ℤ → ℤ → Terms → Terms → ℕ → Bool
is_formed num den left right c =
    is_within (num *ℤ coefficient left c) && (is_within (den *ℤ coefficient right c) && is_within (side_number num den left right c))

-- the first coordinate at which they aren't within the limit
unfoldable pub unformed : ℕ → ℤ → ℤ → Terms → Terms → Option ℕ
unformed size num den left right = find (λ c. not (is_formed num den left right c)) (span 1 size)

-- a row, or the coordinate that there is instead
abbrev pub row_unless : Option ℕ → Terms → Result Terms ℕ
row_unless None row = Ok row
row_unless (Some c) row = Err c

-- the result is the row over size coordinates, or the first coordinate at which a number passes the limit
abbrev pub RowForms : ℕ → ℤ → ℤ → Terms → Terms → Result Terms RowStop → Type 0
RowForms size num den left right (Ok row) = (row_unless (unformed size num den left right) (side_row size num den left right) ≡ Ok row) × IsOver size row
RowForms size num den left right (Err stops.Memory) = Unit {0}
RowForms size num den left right (Err (stops.Wide c)) = row_unless (unformed size num den left right) (side_row size num den left right) ≡ Err c
