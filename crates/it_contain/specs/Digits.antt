-- Tuples by their number. No public clause cites this module: it serves the proofs of `Tuples`.
use Rattle.std.specs.Prelude.{ℕ, suc, zero, ◌≤◌, ◌<◌, ◌/◌, ◌%◌, List, [], ◌∷◌, ◌++◌, map, length, get_or}
use Rattle.it_contain.specs.declared.types.Shape.{Shape}
use Rattle.it_contain.specs.Shapes.{most_shape_variables}

-- the last `parts` digits of `number` to base m, the last one at the end
abbrev pub digits : ℕ → ℕ → ℕ → List ℕ
digits m zero number = []
digits m (suc parts) number = digits m parts (number / m) ++ number % m ∷ []

-- tuple number `number`: its members are those of xs at the digits
abbrev pub tuple_at : List ℕ → ℕ → ℕ → List ℕ
tuple_at xs parts number = map (λ d. get_or xs d 0) (digits (length xs) parts number)

-- a shape that a proposer may keep, also that of no variables, before it is begun
abbrev pub IsShapeWithin : Shape → Type 0
IsShapeWithin s = (s.variables ≤ most_shape_variables) × (s.parts ≤ 4)

-- four digits below m
abbrev pub AreBelow : ℕ → List ℕ → Type 0
AreBelow m r = (get_or r 0 0 < m) × (get_or r 1 0 < m) × (get_or r 2 0 < m) × (get_or r 3 0 < m)
