-- What obligations prove.
use Rattle.std.specs.Prelude.{◌≡◌, ℕ, ℤ, List, length}
use Rattle.it_question.specs.Limits.{IsQuestion}
use Rattle.it_question.specs.OwnLines.{RegionView}
use Rattle.it_question.specs.Questions.{Contain, BodyView}
use Rattle.it_region.specs.Pulling.{substituted_sets, pulled_map}
use Rattle.it_region.specs.Regions.{IsIn, IsCounterpart, LiesIn}
use Rattle.it_region.specs.Obligations.{obligations, AreFormsAtLeastZero, IsSubstitution}

-- Where every obligation is at least 0 at a point of the first region, the point pulled back is its counterpart in the second.
abbrev pub PulledPointIsIn : Type 0
PulledPointIsIn = (q : BodyView) (a b : RegionView) (tries : List (List ℕ)) (parts : List ℕ) → IsQuestion q → q.verb ≡ Contain a b tries → IsSubstitution a b parts
    → (p : ℕ → ℤ) → IsIn q.lines a p → AreFormsAtLeastZero p (obligations q a b parts)
    → IsCounterpart q a b p (pulled_map (length a.names.variables) (length b.names.variables) (substituted_sets (length q.names.variables) parts) p)

-- If every obligation is at least 0 at every point of the first region, the first region lies in the second.
abbrev pub ObligationsContain : Type 0
ObligationsContain = (q : BodyView) (a b : RegionView) (tries : List (List ℕ)) (parts : List ℕ) → IsQuestion q → q.verb ≡ Contain a b tries → IsSubstitution a b parts
    → ((p : ℕ → ℤ) → IsIn q.lines a p → AreFormsAtLeastZero p (obligations q a b parts)) → LiesIn q a b
