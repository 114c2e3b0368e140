-- Whole numbers by place, to which amounts are added.
use Rattle.std.specs.Prelude.{◌≡◌, ℕ, ◌+◌, ℤ, pos, ◌+ℤ◌, List, [], ◌∷◌, ◌++◌, length, cond, nat_eq, slice_index_or, All}
use Rattle.it_number.specs.Limit.{IsWithin}
use Rattle.it_space.specs.Rows.{Terms, single_term}

-- the number at a place, 0 past the last one
abbrev pub number_at : List ℤ → ℕ → ℤ
number_at xs i = slice_index_or xs i (pos 0)

-- numbers by place, with the amount t.1 added at place t.0
abbrev pub plus_at : (ℕ → ℤ) → ℕ × ℤ → ℕ → ℤ
plus_at f t c = f c +ℤ cond (nat_eq t.0 c) t.1 (pos 0)

-- amount was added at place, and the sum is within the limit
pub record IsAdded (old new : List ℤ) (place : ℕ) (amount : ℤ) : Type 0 where
  pub fits : IsWithin (number_at old place +ℤ amount)
  pub same : number_at new ≡ plus_at (number_at old) (place, amount)
  pub complete : length new ≡ length old
  pub within : All IsWithin old → All IsWithin new

-- the nonzero numbers of a list, as pairs of place and number, where the first number of the list is at place first
abbrev pub terms_from : ℕ → List ℤ → Terms
terms_from first [] = []
terms_from first (x ∷ xs) = single_term first x ++ terms_from (first + 1) xs
