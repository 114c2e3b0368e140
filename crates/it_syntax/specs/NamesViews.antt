-- The names of a question's variables and rates, each kind in order of declaration.
use Rattle.std.specs.Prelude.{◌≡◌, ℕ, ◌≤◌, List, ◌++◌, length, Option, None, All, bytes_eq}
use Rattle.std.specs.List.{position, IsDistinct}
use Rattle.it_space.specs.Spaces.{most_variables, most_rates}

-- the names of a question's variables, and of its rates
pub record NamesView : Type 0 where
  pub variables : List (List ℕ)
  pub rates : List (List ℕ)

-- the most variables and rates of a space at most, whose names differ and have 1 to 16 bytes
pub record AreNames (v : NamesView) : Type 0 where
  pub few_variables : length v.variables ≤ most_variables
  pub few_rates : length v.rates ≤ most_rates
  pub short : All (λ name. (1 ≤ length name) × (length name ≤ 16)) (v.variables ++ v.rates)
  pub distinct : IsDistinct bytes_eq (v.variables ++ v.rates)

-- the index of `name` in `names`, counted from 0
abbrev pub index_of : List (List ℕ) → List ℕ → Option ℕ
index_of names name = position (bytes_eq name) names

-- the name is neither a variable's nor a rate's
abbrev pub IsNew : NamesView → List ℕ → Type 0
IsNew v name = (index_of v.variables name ≡ None) × (index_of v.rates name ≡ None)
