-- Rows that are removed from a list, one after the other, each with a certificate that it follows from the others. All variables are
-- constant there, so that rows are judged by their rates alone.
use Rattle.std.specs.Prelude.{ℕ, ◌+◌, List, [], ◌∷◌, length, nat_lt, slice_index_or, Option, Some, None, Result, Ok, Err, if◌then◌else◌}
use Rattle.std.specs.List.{remove}
use Rattle.it_space.specs.declared.spaces.Space.{Space}
use Rattle.it_space.specs.Answers.{CertificateView, certificate_view}
use Rattle.it_space.specs.Rows.{Terms}
use Rattle.it_space.specs.Spaces.{size_of}
use Rattle.it_elemental.specs.Generators.{generators}
use Rattle.it_eliminate.specs.RowLines.{with_rows}
use Rattle.it_check.specs.Verdicts.{yes_verdict}
use Rattle.it_check.specs.declared.verdicts.Verdict.{Verdict}
use Rattle.it_check.specs.declared.verdicts.Verdict.TheVariants.{Valid}
use Rattle.it_hull.specs.Constants.{constants}
use Rattle.it_spans.specs.declared.types.Fault.{Fault}
use Rattle.it_spans.specs.declared.types.Fault.TheVariants.{NoRow, Refused}
use Rattle.it_spans.specs.declared.types.RowDrop.{RowDrop}

-- the number of a row in the list at that time, and a certificate that this row follows from the others
pub record DropView : Type 0 where
  pub row : ℕ
  pub proof : CertificateView

-- a drop as contracts see it
abbrev pub drop_view : RowDrop → DropView
drop_view d = record { row = d.row; proof = certificate_view d.proof }

-- the verdict on a drop's certificate of its row, under the problem in which each variable is constant and the other rows hold
abbrev pub drop_verdict : Space → List Terms → DropView → Verdict
drop_verdict s rows d = yes_verdict (generators (with_rows (constants s) (remove rows d.row))) (size_of s) (slice_index_or rows d.row []) d.proof

-- the fault that a verdict means for drop number after ray number ray
abbrev pub verdict_fault : ℕ → ℕ → Verdict → Option Fault
verdict_fault ray number Valid = None
verdict_fault ray number verdict = Some (Refused ray number verdict)

-- the fault of a drop: the list has no such row, or its certificate isn't valid
abbrev pub drop_fault : Space → ℕ → ℕ → List Terms → DropView → Option Fault
drop_fault s ray number rows d = if nat_lt d.row (length rows) then verdict_fault ray number (drop_verdict s rows d) else Some (NoRow ray number)

-- a fault if there is one, else the later result
abbrev pub fault_or : Option Fault → Result (List Terms) Fault → Result (List Terms) Fault
fault_or (Some fault) later = Err fault
fault_or None later = later

-- the rows that are left by the drops after a ray, which are numbered from number on, or the first fault
abbrev pub after_drops : Space → ℕ → ℕ → List Terms → List DropView → Result (List Terms) Fault
after_drops s ray number rows [] = Ok rows
after_drops s ray number rows (d ∷ ds) = fault_or (drop_fault s ray number rows d) (after_drops s ray (number + 1) (remove rows d.row) ds)
