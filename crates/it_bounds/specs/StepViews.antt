-- A step that is made, as contracts see it; no public clause cites it.
use Rattle.std.specs.Prelude.{◌≡◌, ◌^◌, ℤ, List, [], ◌∷◌, Bool, false, Option, option_map}
use Rattle.it_space.specs.declared.answers.Certificate.{Certificate}
use Rattle.it_space.specs.Answers.{CertificateView}
use Rattle.it_problems.specs.Problems.{ProblemView}
use Rattle.it_space.specs.Rows.{Terms}
use Rattle.it_eliminate.specs.Elimination.{EliminatedView, is_same}
use Rattle.it_prove.specs.declared.types.Effort.{Effort}
use Rattle.it_redundant.specs.Reduction.{NeedView, Reduces, kept_rows}
use Rattle.it_hull.specs.Rays.{RayEnds}
use Rattle.it_spans.specs.declared.types.Frame.{Frame}
use Rattle.it_spans.specs.Spans.{step_view}
use Rattle.it_bounds.specs.declared.steps.Made.{Made}
use Rattle.it_bounds.specs.HullSteps.{IsMade, MadeStep, numbered_drops}

-- whether the row is the first of the dropped ones
abbrev pub goes_first : Terms → List (Terms × Certificate) → Bool
goes_first row [] = false
goes_first row (d ∷ dropped) = is_same row d.0

-- a step as contracts see it
abbrev pub made_view : Made → MadeStep
made_view m = record { step = step_view m.step; rows = m.rows.items }

-- the step is what a reduction makes of the rows that a ray leaves
abbrev pub IsReducedStep : ProblemView → Effort → List Terms → List ℤ → Made → Type 0
IsReducedStep q effort left ray made = (kept : List (Terms × NeedView)) × (dropped : List (Terms × CertificateView)) × Reduces q effort [] left kept dropped
    × (made_view made ≡ record { step = record { ray = ray; drops = numbered_drops 0 left dropped }; rows = kept_rows kept })

-- the step is what is made of the rows of a hull with one more ray
abbrev pub IsMadeStep : Frame → Effort → List Terms → List ℤ → Option Made → Type 0
IsMadeStep f effort rows ray made = (left : EliminatedView) × RayEnds (2 ^ f.space.variables) f.rows ray f.spare rows left × IsMade f.space effort ray left (option_map made_view made)
