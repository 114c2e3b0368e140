-- The list that `Recent` proposes.
use Rattle.std.specs.Prelude.{◌^◌, ◌==◌, ◌&&◌, List, [], ◌∷◌, Bool, Option, Some, None, if◌then◌else◌, nat_lt, take}
use Rattle.std.specs.List.{list_all}
use Rattle.it_region.specs.declared.types.Candidate.{Candidate}
use Rattle.it_contain.specs.declared.types.Shape.{Shape}

-- the last of the candidates that were proved, or `kept` where none was
abbrev pub last_of : Option Candidate → List Candidate → Option Candidate
last_of kept [] = kept
last_of kept (c ∷ cs) = last_of (Some c) cs

-- the candidate has as many parts as the shape, each a set of its variables
unfoldable pub is_of_shape : Shape → Candidate → Bool
is_of_shape s c = (c.count == s.parts) && list_all (λ part. nat_lt part (2 ^ s.variables)) (take c.count c.parts)

-- the last candidate alone, where it is of the shape
abbrev pub recent_candidates : Shape → Option Candidate → List Candidate
recent_candidates s None = []
recent_candidates s (Some c) = if is_of_shape s c then c ∷ [] else []
