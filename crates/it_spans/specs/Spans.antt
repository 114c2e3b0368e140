-- The hull of rays as a judge makes it: one ray after the other, and after each ray its drops.
use Rattle.std.specs.Prelude.{◌≡◌, ℕ, ◌+◌, ◌^◌, ℤ, List, [], ◌∷◌, map, Result, Ok, Err}
use Rattle.it_space.specs.declared.spaces.Space.{Space}
use Rattle.it_space.specs.Rows.{Terms}
use Rattle.it_eliminate.specs.Elimination as elimination
use Rattle.it_eliminate.specs.Elimination.{EliminatedView}
use Rattle.it_hull.specs.Hulls.{first_rows}
use Rattle.it_hull.specs.Rays.{RayEnds}
use Rattle.it_spans.specs.declared.types.Fault.{Fault}
use Rattle.it_spans.specs.declared.types.Fault.TheVariants.{TooMany, TooWide}
use Rattle.it_spans.specs.declared.types.Frame.{Frame}
use Rattle.it_spans.specs.declared.types.Spanned.{Spanned}
use Rattle.it_spans.specs.declared.types.Spanned.TheVariants as ends
use Rattle.it_spans.specs.declared.types.Step.{Step}
use Rattle.it_spans.specs.Drops.{DropView, after_drops, drop_view}

-- a ray, and the drops after it
pub record StepView : Type 0 where
  pub ray : List ℤ
  pub drops : List DropView

-- steps as contracts see them
abbrev pub step_view : Step → StepView
step_view s = record { ray = s.ray; drops = map drop_view s.drops.items }

abbrev pub step_views : List Step → List StepView
step_views steps = map step_view steps

-- the rays of steps
abbrev pub rays_of : List StepView → List (List ℤ)
rays_of steps = map (λ s. s.ray) steps

-- the rows of a ray's elimination that the drops after it leave, or the first fault
abbrev pub step_end : Space → ℕ → List DropView → EliminatedView → Result (List Terms) Fault
step_end s ray drops (elimination.Region rows) = after_drops s ray 0 rows drops
step_end s ray drops (elimination.Rows rate) = Err (TooMany ray)
step_end s ray drops (elimination.Wide rate) = Err (TooWide ray)

-- end is the result of a step, whose ray has the number ray, on the rows of a hull
abbrev pub StepEnds : Frame → ℕ → List Terms → StepView → Result (List Terms) Fault → Type 0
StepEnds f ray rows s end = (left : EliminatedView) × RayEnds (2 ^ f.space.variables) f.rows s.ray f.spare rows left × (end ≡ step_end f.space ray s.drops left)

-- if there are rows, end is as later says for them; a fault is the end
abbrev pub GoesOn : (List Terms → Result (List Terms) Fault → Type 0) → Result (List Terms) Fault → Result (List Terms) Fault → Type 0
GoesOn later (Ok rows) end = later rows end
GoesOn later (Err fault) end = end ≡ Err fault

-- end is the result of steps, whose rays are numbered from ray on, on the rows of a hull: the rows that are left, or the first fault
abbrev pub StepsEnd : Frame → ℕ → List Terms → List StepView → Result (List Terms) Fault → Type 0
StepsEnd f ray rows [] end = end ≡ Ok rows
StepsEnd f ray rows (s ∷ steps) end = (first : Result (List Terms) Fault) × StepEnds f ray rows s first × GoesOn (λ next end. StepsEnd f (ray + 1) next steps end) first end

-- end is the result of steps on the rows of the hull of no rays
abbrev pub SpanEnds : Frame → List ℕ → List StepView → Result (List Terms) Fault → Type 0
SpanEnds f kept steps end = StepsEnd f 0 (first_rows kept) steps end

-- an end as contracts see it
abbrev pub spanned_view : Spanned → Result (List Terms) Fault
spanned_view (ends.Hull rows) = Ok rows.items
spanned_view (ends.Faulty fault) = Err fault
