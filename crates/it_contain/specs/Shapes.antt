-- The lists of sets of `Singles` and `Subsets`, and the candidates that are proposed out of such a list.
use Rattle.std.specs.Prelude.{ℕ, suc, zero, ◌^◌, ◌≤◌, List, [], ◌∷◌, ◌++◌, map, take}
use Rattle.std.specs.List.{flat_map}
use Rattle.it_polymatroid.specs.Elementals.{span}
use Rattle.it_region.specs.declared.types.Pair.{Pair}
use Rattle.it_region.specs.declared.types.Candidate.{Candidate}
use Rattle.it_region.specs.Pulling.{singles}
use Rattle.it_contain.specs.declared.types.Shape.{Shape}

-- the most variables of a shape: tuples of four of their sets then have numbers of 64 bits
abbrev pub most_shape_variables : ℕ
most_shape_variables = 10

-- at least one variable, no more than that, and at most 4 parts
pub record IsShape (s : Shape) : Type 0 where
  pub some : 1 ≤ s.variables
  pub few : s.variables ≤ most_shape_variables
  pub parts : s.parts ≤ 4

-- the shape of a pair: the number of the first region's variables, and that of the parts
abbrev pub shape_of : Pair → Shape
shape_of p = record { variables = p.first.space.variables; parts = p.parts }

-- all lists of `parts` members of xs, in lexicographic order: the last member changes fastest
unfoldable pub tuples : List ℕ → ℕ → List (List ℕ)
tuples xs zero = [] ∷ []
tuples xs (suc parts) = flat_map (λ x. map (λ t. x ∷ t) (tuples xs parts)) xs

-- the sets of at most one of n variables: the empty set, and each variable alone
unfoldable pub small_sets : ℕ → List ℕ
small_sets n = 0 ∷ singles 0 n

-- all sets of n variables
unfoldable pub all_sets : ℕ → List ℕ
all_sets n = span 0 (2 ^ n)

-- the candidate of a tuple: the places after it hold the empty set
unfoldable pub candidate_of : ℕ → List ℕ → Candidate
candidate_of parts tuple = record { count = parts; parts = take 4 (tuple ++ (0 ∷ 0 ∷ 0 ∷ 0 ∷ [])) }

-- the candidates of all tuples for a shape, of sets out of a list for each number of variables
unfoldable pub tuple_candidates : (ℕ → List ℕ) → Shape → List Candidate
tuple_candidates sets s = map (candidate_of s.parts) (tuples (sets s.variables) s.parts)
