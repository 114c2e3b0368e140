-- The line of a report from its parts; no public clause cites it.
use Rattle.std.specs.Prelude.{◌≡◌, ℕ, List}
use Rattle.it_spans.specs.Spans.{StepView}
use Rattle.it_syntax.specs.NamesViews.{NamesView}
use Rattle.it_certificate.specs.Values.{SourceTexts, bounds_members, report_text}
use Rattle.it_answer.specs.Truth.{region_rows}
use Rattle.it_bounds.specs.declared.types.Reply.{Reply}
use Rattle.it_bounds.specs.declared.types.Reply.TheVariants as replies
use Rattle.it_bounds.specs.Lines.{IsCausePrintable}
use Rattle.it_bounds.specs.Replies.{ReplyView, Bounded}

-- the cause of a reply, if it has one, can be printed with the names
abbrev pub IsToldCause : NamesView → Reply → Type 0
IsToldCause v (replies.Undecided cause) = IsCausePrintable v cause
IsToldCause v reply = Unit {0}

-- the reply has bounds
abbrev pub IsBounded : Reply → Type 0
IsBounded (replies.Bounded rows proofs rays) = Unit {0}
IsBounded reply = ⊥

-- the line of these bounds, without its end
abbrev pub IsBoundsReport : SourceTexts → ReplyView → List StepView → List ℕ → Type 0
IsBoundsReport source (Bounded rows proofs rays) steps text = text ≡ report_text source (bounds_members (record { rows = region_rows rows; proofs = proofs; steps = steps }))
IsBoundsReport source reply steps text = ⊥
