-- Laws of the hull that a judge makes.
use Rattle.std.specs.Prelude.{◌≡◌, ◌↔◌, ℕ, ◌+◌, ◌^◌, ◌≤◌, ◌<◌, ℤ, List, length, All, Contains, Result, Ok, Err}
use Rattle.it_space.specs.Rows.{Terms, most_system_rows}
use Rattle.it_space.specs.Spaces.{IsSpace, size_of}
use Rattle.it_hull.specs.Hulls.{IsHull}
use Rattle.it_spans.specs.declared.types.Fault.{Fault}
use Rattle.it_spans.specs.declared.types.Frame.{Frame}
use Rattle.it_spans.specs.declared.types.HullVerdict.TheVariants.{Valid}
use Rattle.it_spans.specs.declared.types.Step.{Step}
use Rattle.it_spans.specs.Spans.{SpanEnds, StepView, StepsEnd, rays_of}
use Rattle.it_spans.specs.Verdicts.{VerdictIs}

-- the frames that functions accept
pub record IsFrame (f : Frame) : Type 0 where
  pub space : IsSpace f.space
  pub spare : f.spare < f.space.rates
  pub few_rows : f.rows ≤ most_system_rows

-- the kept coordinates that functions accept: those of rates, without the one of the multipliers
pub record AreKept (f : Frame) (kept : List ℕ) : Type 0 where
  pub rates : All (λ c. (2 ^ f.space.variables ≤ c) × (c ≤ size_of f.space)) kept
  pub away : ¬ (Contains kept (2 ^ f.space.variables + f.spare))

-- the steps that functions accept: rays of the space
abbrev pub AreSteps : Frame → List Step → Type 0
AreSteps f steps = All (λ s. length s.ray ≡ size_of f.space) steps

-- if rows are left, they hold exactly at the points that the rays span
abbrev pub IsRightSpan : List ℕ → List (List ℤ) → Result (List Terms) Fault → Type 0
IsRightSpan kept rays (Ok rows) = IsHull kept rows rays
IsRightSpan kept rays (Err fault) = Unit {0}

-- the end of steps is right
abbrev pub SpansAreRight : Type 0
SpansAreRight = (f : Frame) (kept : List ℕ) (steps : List StepView) (end : Result (List Terms) Fault) → IsFrame f → AreKept f kept → SpanEnds f kept steps end → IsRightSpan kept (rays_of steps) end

-- steps on given rows have one end
abbrev pub OneSpanEnd : Type 0
OneSpanEnd = (f : Frame) (ray : ℕ) (rows : List Terms) (steps : List StepView) (end other : Result (List Terms) Fault) → StepsEnd f ray rows steps end → StepsEnd f ray rows steps other → end ≡ other

-- the verdict on rows is `Valid` exactly if the steps leave these rows, row for row
abbrev pub ValidHull : Type 0
ValidHull = (f : Frame) (kept : List ℕ) (steps : List StepView) (rows : List Terms) → VerdictIs f kept steps rows Valid ↔ SpanEnds f kept steps (Ok rows)
