-- The steps by which the hull of rays is made again: one more ray, and then the rows that a reduction drops where all variables are
-- constant.
use Rattle.std.specs.Prelude.{◌≡◌, ℕ, ◌+◌, ◌^◌, ℤ, List, [], ◌∷◌, Option, Some, None, option_map, if◌then◌else◌}
use Rattle.it_space.specs.declared.spaces.Space.{Space}
use Rattle.it_space.specs.Answers.{CertificateView}
use Rattle.it_space.specs.Rows.{Terms}
use Rattle.it_eliminate.specs.Elimination as elimination
use Rattle.it_eliminate.specs.Elimination.{EliminatedView, is_same}
use Rattle.it_prove.specs.declared.types.Effort.{Effort}
use Rattle.it_redundant.specs.Reduction.{NeedView, Reduces, kept_rows}
use Rattle.it_hull.specs.Constants.{constants}
use Rattle.it_hull.specs.Rays.{RayEnds}
use Rattle.it_spans.specs.declared.types.Frame.{Frame}
use Rattle.it_spans.specs.Drops.{DropView}
use Rattle.it_spans.specs.Spans.{StepView}

-- the dropped rows, each by its number in the list as it stands then; `stayed` is the number of the rows before these that stay
abbrev pub numbered_drops : ℕ → List Terms → List (Terms × CertificateView) → List DropView
numbered_drops stayed rows [] = []
numbered_drops stayed [] (d ∷ dropped) = []
numbered_drops stayed (row ∷ rows) (d ∷ dropped) =
    if is_same row d.0 then record { row = stayed; proof = d.1 } ∷ numbered_drops stayed rows dropped else numbered_drops (stayed + 1) rows (d ∷ dropped)

-- a ray with the rows that are dropped after it, and the rows that stay
pub record MadeStep : Type 0 where
  pub step : StepView
  pub rows : List Terms

-- what is made of the rows that a ray leaves, if it leaves any
abbrev pub IsMade : Space → Effort → List ℤ → EliminatedView → Option MadeStep → Type 0
IsMade s effort ray (elimination.Region rows) made = (kept : List (Terms × NeedView)) × (dropped : List (Terms × CertificateView))
    × Reduces (constants s) effort [] rows kept dropped
    × (made ≡ Some (record { step = record { ray = ray; drops = numbered_drops 0 rows dropped }; rows = kept_rows kept }))
IsMade s effort ray (elimination.Rows rate) made = made ≡ None
IsMade s effort ray (elimination.Wide rate) made = made ≡ None

-- a step before those that are made from the rows that stay; none where one of them isn't made
abbrev pub GoesOnWith : (List Terms → Option (List StepView) → Type 0) → Option MadeStep → Option (List StepView) → Type 0
GoesOnWith later None steps = steps ≡ None
GoesOnWith later (Some made) steps = (rest : Option (List StepView)) × later made.rows rest × (steps ≡ option_map (λ more. made.step ∷ more) rest)

-- the steps of rays from the rows of a hull, in order; none where a ray leaves too many rows, or a number passes the limit
abbrev pub AreMade : Frame → Effort → List Terms → List (List ℤ) → Option (List StepView) → Type 0
AreMade f effort rows [] steps = steps ≡ Some []
AreMade f effort rows (ray ∷ rays) steps = (left : EliminatedView) × (made : Option MadeStep) × RayEnds (2 ^ f.space.variables) f.rows ray f.spare rows left
    × IsMade f.space effort ray left made × GoesOnWith (λ next rest. AreMade f effort next rays rest) made steps
