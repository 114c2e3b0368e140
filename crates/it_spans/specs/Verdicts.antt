-- The verdict on rows that are claimed to be the hull of rays: the first fault.
use Rattle.std.specs.Prelude.{◌≡◌, ℕ, ◌+◌, List, [], ◌∷◌, Option, Some, None, Result, Ok, Err, if◌then◌else◌}
use Rattle.it_space.specs.Rows.{Terms}
use Rattle.it_eliminate.specs.Elimination.{is_same}
use Rattle.it_spans.specs.declared.types.Fault.{Fault}
use Rattle.it_spans.specs.declared.types.Frame.{Frame}
use Rattle.it_spans.specs.declared.types.HullVerdict.{HullVerdict}
use Rattle.it_spans.specs.declared.types.HullVerdict.TheVariants.{Valid, Faulty, OtherRow}
use Rattle.it_spans.specs.Spans.{SpanEnds, StepView}

-- the first place, counted from place on, at which two lists of rows differ or one of them ends
abbrev pub first_difference : ℕ → List Terms → List Terms → Option ℕ
first_difference place [] [] = None
first_difference place [] (y ∷ ys) = Some place
first_difference place (x ∷ xs) [] = Some place
first_difference place (x ∷ xs) (y ∷ ys) = if is_same x y then first_difference (place + 1) xs ys else Some place

-- `Valid`, or the first place at which the rows differ from the hull
abbrev pub place_verdict : Option ℕ → HullVerdict
place_verdict None = Valid
place_verdict (Some place) = OtherRow place

-- the verdict on rows by the result of the steps
abbrev pub rows_verdict : List Terms → Result (List Terms) Fault → HullVerdict
rows_verdict rows (Ok hull) = place_verdict (first_difference 0 hull rows)
rows_verdict rows (Err fault) = Faulty fault

-- the verdict on rows by steps
pub record VerdictIs (f : Frame) (kept : List ℕ) (steps : List StepView) (rows : List Terms) (verdict : HullVerdict) : Type 0 where
  pub end : Result (List Terms) Fault
  pub ends : SpanEnds f kept steps end
  pub verdict_is : verdict ≡ rows_verdict rows end
