-- Substitutions: each variable stands for a set of other variables, and a set of variables for the union of what its members stand for.
use Rattle.std.specs.Prelude.{ℕ, ◌+◌, bit_or, List, [], ◌∷◌, if◌then◌else◌}
use Rattle.it_space.specs.Sets.{has_member}

-- the union over the members of s from variable `first` on of the sets that they stand for, which are listed in order
abbrev pub union_from : ℕ → List ℕ → ℕ → ℕ
union_from first [] s = 0
union_from first (x ∷ xs) s = bit_or (if has_member s first then x else 0) (union_from (first + 1) xs s)

-- the set that s stands for
abbrev pub union_of_images : List ℕ → ℕ → ℕ
union_of_images sets s = union_from 0 sets s
