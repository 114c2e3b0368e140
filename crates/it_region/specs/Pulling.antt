-- A second region's coordinates among those of a first one, by a substitution of sets for its variables.
use Rattle.std.specs.Prelude.{ℕ, ◌+◌, ◌-◌, ◌^◌, ℤ, List, ◌++◌, map, if◌then◌else◌, nat_lt}
use Rattle.it_polymatroid.specs.Elementals.{span}
use Rattle.it_polymatroid.specs.Substitutions.{union_of_images}

-- the sets of one variable each, of `count` variables from variable i on
abbrev pub singles : ℕ → ℕ → List ℕ
singles i count = map (λ v. 2 ^ v) (span i count)

-- the common variables stand for themselves, and each other one for its part
abbrev pub substituted_sets : ℕ → List ℕ → List ℕ
substituted_sets common parts = singles 0 common ++ parts

-- the coordinate of the first region's n variables that one of the second region's m stands for: a set for the union of what its
-- members stand for, and a rate for itself
unfoldable pub pulled_coordinate : ℕ → ℕ → List ℕ → ℕ → ℕ
pulled_coordinate n m sets c = if nat_lt c (2 ^ m) then union_of_images sets c else 2 ^ n + (c - 2 ^ m)

-- a map of the first region's coordinates pulled back to those of the second
abbrev pub pulled_map : ℕ → ℕ → List ℕ → (ℕ → ℤ) → ℕ → ℤ
pulled_map n m sets p c = p (pulled_coordinate n m sets c)
