-- What is written reads back, and a line has one reading.
use Rattle.std.specs.Prelude.{◌≡◌, ℕ, ◌≤◌, List, [], ◌∷◌, map, filter, length, Result, Ok}
use Rattle.it_space.specs.Answers.{CertificateView, AnswerView, is_nonzero_weight}
use Rattle.it_space.specs.Answers.AnswerView.{Yes, No, Undecided, Region, Contained, Open}
use Rattle.it_space.specs.declared.answers.Mark.{Mark}
use Rattle.it_space.specs.Rows.{Terms}
use Rattle.it_question.specs.declared.sizes.FileLimits.{FileLimits}
use Rattle.it_question.specs.Questions.{QuestionView}
use Rattle.it_question.specs.Files.{IsFileWithin}
use Rattle.it_certificate.specs.declared.keys.Key.{Key}
use Rattle.it_certificate.specs.OriginReading.{HasDerivedShape}
use Rattle.it_certificate.specs.Values.{answer_value, derived_value}
use Rattle.it_certificate.specs.Reports.{Answered, Derived, ReadsAs, ReadsReport, Reading}
use Rattle.it_certificate.specs.Sources.{Text}
use Rattle.it_certificate.specs.AnswerShapes.{HasQuestionShape}
use Rattle.it_syntax.specs.Lines.{most_text_bytes}

-- a certificate without its weights of 0
abbrev pub without_zeros : CertificateView → CertificateView
without_zeros c = record { scale = c.scale; weights = filter is_nonzero_weight c.weights }

-- an answer without its weights of 0
abbrev pub written_answer : AnswerView → AnswerView
written_answer (Yes proofs) = Yes (map without_zeros proofs)
written_answer (No back values) = No back values
written_answer (Undecided cause) = Undecided cause
written_answer (Region rows) = Region rows
written_answer (Contained parts proofs) = Contained parts (map without_zeros proofs)
written_answer (Open tried) = Open tried

-- The value of an answer that fits a question reads as that question with that answer.
abbrev pub ReadsBack : Type 0
ReadsBack = (limits : FileLimits) (q : QuestionView) (answer : AnswerView) → length q.text ≤ most_text_bytes
    → IsFileWithin limits q.text (q ∷ []) → HasQuestionShape q.body answer
    → ReadsAs limits (answer_value q.text q.body.names answer) (Ok (Answered (Text q) (written_answer answer)))

-- The value of a region with a certificate for each of its rows, which fit the question, reads as that question with that
-- region and these certificates.
abbrev pub OriginsReadBack : Type 0
OriginsReadBack = (limits : FileLimits) (q : QuestionView) (rows : List (Mark × Terms)) (origins : List CertificateView)
    → length q.text ≤ most_text_bytes → IsFileWithin limits q.text (q ∷ []) → HasDerivedShape q.body (Region rows) origins
    → ReadsAs limits (derived_value q.text q.body.names rows origins) (Ok (Derived (Text q) (Region rows) (map without_zeros origins)))

-- A line has at most one reading.
abbrev pub OneReading : Type 0
OneReading = (limits : FileLimits) (line : List ℕ) (r s : Result Reading Key) → ReadsReport limits line r → ReadsReport limits line s
    → r ≡ s
