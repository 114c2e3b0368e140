-- The sets of a `try` line: one for each auxiliary of the second region, by number; none where it isn't named yet.
use Rattle.std.specs.Prelude.{ℕ, zero, suc, ◌-◌, Bool, true, List, [], ◌∷◌, ◌++◌, take, replicate, slice_get, is_some, Option, Some, None, if◌then◌else◌, nat_lt, length, option_and_then}
use Rattle.std.specs.Option.{option_map_or}
use Rattle.it_syntax.specs.NamesViews.{NamesView, index_of}
use Rattle.it_syntax.specs.Scopes.{Environment}

-- the set of each auxiliary; none where it isn't named yet
abbrev pub Sets : Type 0
Sets = List (Option ℕ)

-- four places: none in those of the second region's n auxiliaries, and the empty set in those after them
abbrev pub unnamed_sets : ℕ → Sets
unnamed_sets n = take 4 (replicate n None ++ replicate 4 (Some 0))

-- whether auxiliary i has its set; a place that isn't there counts as named
abbrev pub is_named : Sets → ℕ → Bool
is_named sets i = option_map_or is_some (slice_get sets i) true

-- the sets, with `set` for auxiliary i
abbrev pub with_set : Sets → ℕ → ℕ → Sets
with_set [] i set = []
with_set (s ∷ sets) zero set = Some set ∷ sets
with_set (s ∷ sets) (suc i) set = s ∷ with_set sets i set

-- which of the auxiliaries of a region a name is: they stand after the question's variables
unfoldable pub auxiliary_env : NamesView → NamesView → Environment
auxiliary_env v names w = option_and_then (λ i. if nat_lt i (length v.variables) then None else Some (i - length v.variables)) (index_of names.variables w)
