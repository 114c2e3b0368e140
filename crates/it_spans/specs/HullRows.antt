-- The rows of hulls between steps, and the first rows of lists. No public clause cites this module.
use Rattle.std.specs.Prelude.{◌+◌, ◌^◌, List, [], ◌∷◌, All, Bool, false}
use Rattle.it_space.specs.Rows.{Terms, IsOver}
use Rattle.it_space.specs.Spaces.{size_of}
use Rattle.it_eliminate.specs.Elimination.{is_same}
use Rattle.it_eliminate.specs.Projections.{LacksCoordinate}
use Rattle.it_spans.specs.declared.types.Frame.{Frame}

-- the rows that a step accepts: of the space, without the rate of the multipliers
pub record AreHullRows (f : Frame) (rows : List Terms) : Type 0 where
  pub over : All (IsOver (size_of f.space)) rows
  pub free : LacksCoordinate (2 ^ f.space.variables + f.spare) rows

-- whether two lists begin with equal rows
abbrev pub same_first : List Terms → List Terms → Bool
same_first [] ys = false
same_first (x ∷ xs) [] = false
same_first (x ∷ xs) (y ∷ ys) = is_same x y
