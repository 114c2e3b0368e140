-- The two meanings of a proposer, the candidates still to come and the plan, and how its calls change them.
use Rattle.std.specs.Prelude.{◌≡◌, List, [], ◌∷◌, ◌++◌, Bool, true, false, Option, Some, None}
use Rattle.it_contain.specs.declared.types.Shape.{Shape}
use Rattle.it_region.specs.declared.types.Candidate.{Candidate}

-- the candidates that a proposer would have to come once begun, for a shape and the candidates that are proved from now on
abbrev pub Plan : Type 0
Plan = Shape → List Candidate → List Candidate

-- the plan once a candidate has been proved
abbrev pub plan_after : Candidate → Plan → Plan
plan_after c plan shape proved = plan shape (c ∷ proved)

-- the plan once these candidates have been proved, in this order
abbrev pub plan_after_all : List Candidate → Plan → Plan
plan_after_all proved plan shape more = plan shape (proved ++ more)

-- `before` is the candidate and then `after`; there is no candidate exactly where `before` is empty
abbrev pub Takes : List Candidate → Option Candidate → List Candidate → Type 0
Takes before None after = (before ≡ []) × (after ≡ [])
Takes before (Some c) after = before ≡ c ∷ after

-- A candidate that isn't proved changes nothing. After one that is, the plan is that for it and those proved later; what is
-- still to come may change.
abbrev pub Learns : Bool → Candidate → List Candidate → Plan → List Candidate → Plan → Type 0
Learns false c pending plan new_pending new_plan = (new_pending ≡ pending) × (new_plan ≡ plan)
Learns true c pending plan new_pending new_plan = new_plan ≡ plan_after c plan
