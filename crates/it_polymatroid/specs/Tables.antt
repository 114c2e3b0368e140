-- Set functions by the list of their values, in order of the sets' numbers.
use Rattle.std.specs.Prelude.{◌≡◌, ℕ, ◌^◌, ◌≤◌, ℤ, pos, List, length, slice_index_or, All}
use Rattle.it_number.specs.Limit.{IsWithin}
use Rattle.it_space.specs.Spaces.{most_variables}

-- a function on the sets of some variables
pub record SetFunction : Type 0 where
  pub variables : ℕ
  pub values : List ℤ

-- the value at a set; 0 past the last set
abbrev pub value_at : SetFunction → ℕ → ℤ
value_at f s = slice_index_or f.values s (pos 0)

-- the functions that a table may have: of at most `most_variables` variables, 0 at the empty set, all values within the limit
pub record IsTable (f : SetFunction) : Type 0 where
  pub few : f.variables ≤ most_variables
  pub complete : length f.values ≡ 2 ^ f.variables
  pub empty : value_at f 0 ≡ pos 0
  pub within : All IsWithin f.values
