-- No public clause cites this module: the value of one elemental inequality.
use Rattle.std.specs.Prelude.{ℕ, ℤ, Result, OkIff}
use Rattle.it_fraction.specs.declared.fraction.Wide.{Wide}
use Rattle.it_space.specs.Rows.{ValueFits}
use Rattle.it_polymatroid.specs.Elementals.{Elemental, elemental_value}
use Rattle.it_elemental.specs.Rows.{elemental_row}

-- its value at a set function, or `Wide` exactly where a partial sum in order of the sets passes the limit
abbrev pub IsElementalValueOrWide : ℕ → (ℕ → ℤ) → Elemental → Result ℤ Wide → Type 0
IsElementalValueOrWide n h e result = OkIff result (ValueFits (elemental_row n e) h) (elemental_value n h e)
