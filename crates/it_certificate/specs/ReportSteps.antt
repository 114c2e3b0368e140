-- No public clause cites this module: what the readers of a report and of its question give, against the definitions.
use Rattle.std.specs.Prelude.{◌≡◌, ℕ, ◌+◌, ◌*◌, ◌-◌, ◌<◌, ◌≤◌, List, [], ◌∷◌, length, Option, Some, None, Result, Ok, Err}
use Rattle.serde_json.specs.Data.{Data}
use Rattle.it_problems.specs.declared.problems.Kind.{Kind}
use Rattle.it_problems.specs.declared.problems.Kind.TheVariants.{Inequality, Equation}
use Rattle.it_syntax.specs.declared.types.Sign.{Sign}
use Rattle.it_syntax.specs.Meaning.{RelationView}
use Rattle.it_demand.specs.Demands.{kind_of}
use Rattle.it_syntax.specs.Givens.{GivenView, Relation, Markov, Independent, Function}
use Rattle.it_question.specs.declared.sizes.FileLimits.{FileLimits}
use Rattle.it_question.specs.Questions.{QuestionView}
use Rattle.it_question.specs.Files.{IsFileWithin}
use Rattle.it_question.specs.QuestionLimits.{most_lines}
use Rattle.it_certificate.specs.declared.keys.Refusal.{Refusal}
use Rattle.it_certificate.specs.declared.keys.Refusal.TheVariants.{Memory, Shape}
use Rattle.it_certificate.specs.declared.keys.ReportFault.{ReportFault}
use Rattle.it_certificate.specs.declared.keys.ReportFault.TheVariants as faults
use Rattle.it_copy.specs.CopyLines.{CopyView}
use Rattle.it_copy.specs.declared.types.CopyFault.{CopyFault}
use Rattle.it_copy.specs.declared.types.CopyFault.TheVariants as copy_faults
use Rattle.it_copy.specs.Extensions.{IsExtension, extended}
use Rattle.it_sharing.specs.Sharings.{SharingView, made_question, maximal_count, minimal_count}
use Rattle.it_certificate.specs.declared.types.Reported.{Reported}
use Rattle.it_certificate.specs.Reports.{IsReported, ReadsAs, Reading}
use Rattle.it_certificate.specs.Sources.{AsksOnly, IsMakeable, IsSourceOf, Source, Copies, asked, source_key}
use Rattle.it_syntax.specs.Lines.{most_text_bytes}

-- the number of forms that a demand of this kind says to be at least 0
abbrev pub form_count : Kind → ℕ
form_count Inequality = 1
form_count Equation = 2

-- the number of targets of a relation of this sign
abbrev pub target_count : Sign → ℕ
target_count sign = form_count (kind_of sign)

-- the number of forms that a given says to be at least 0: two for an equation
abbrev pub given_form_count : GivenView → ℕ
given_form_count (Relation r) = target_count r.sign
given_form_count (Markov sets) = 2 * (length sets - 2)
given_form_count (Independent members given) = 2
given_form_count (Function value argument) = 2

-- the number of forms that a relation says to be at least 0
abbrev pub relation_form_count : RelationView → ℕ
relation_form_count r = target_count r.sign

-- the only one of a list, if it has one item
abbrev pub IsOnly : List QuestionView → Option QuestionView → Type 0
IsOnly qs (Some q) = qs ≡ q ∷ []
IsOnly qs None = length qs ≡ 1 → ⊥

-- what the reader of a text as exactly one question gave
abbrev pub GivesOnly : FileLimits → List ℕ → Result QuestionView Refusal → Type 0
GivesOnly limits text (Ok q) = (length text ≤ most_text_bytes) × IsFileWithin limits text (q ∷ [])
GivesOnly limits text (Err Shape) = (q : QuestionView) → length text ≤ most_text_bytes → IsFileWithin limits text (q ∷ []) → ⊥
GivesOnly limits text (Err Memory) = Unit {0}

-- what the reader of bytes as a file with a head gave: the file's only question with the copies
abbrev pub GivesCopied : FileLimits → List ℕ → Result QuestionView Refusal → Type 0
GivesCopied limits bytes (Ok e) = (q : QuestionView) × (copies : List CopyView) × AsksOnly limits bytes q copies
    × (asked (Copies q copies) ≡ e)
GivesCopied limits bytes (Err Shape) = (q : QuestionView) (copies : List CopyView) → AsksOnly limits bytes q copies → ⊥
GivesCopied limits bytes (Err Memory) = Unit {0}

-- what the extender of the only one of some questions gave
abbrev pub GivesExtended : FileLimits → List CopyView → List QuestionView → Result QuestionView Refusal → Type 0
GivesExtended limits copies qs (Ok e) = (q : QuestionView) × (qs ≡ q ∷ []) × IsExtension limits q.body copies (extended q.body copies)
    × (asked (Copies q copies) ≡ e)
GivesExtended limits copies qs (Err Shape) = (q : QuestionView) → qs ≡ q ∷ [] → IsExtension limits q.body copies (extended q.body copies)
    → ⊥
GivesExtended limits copies qs (Err Memory) = Unit {0}

-- why the only question isn't extended, by the fault of its copies
abbrev pub refusal_by : CopyFault → Refusal
refusal_by copy_faults.Memory = Memory
refusal_by fault = Shape

-- what the maker of the question of a sharing file gave
abbrev pub GivesMadeFrom : SharingView → Result QuestionView Refusal → Type 0
GivesMadeFrom x (Ok q) = (minimal_count x + maximal_count x ≤ most_lines) × (made_question x ≡ q)
GivesMadeFrom x (Err Shape) = most_lines < minimal_count x + maximal_count x
GivesMadeFrom x (Err Memory) = Unit {0}

-- what the reader of bytes as a sharing file gave: the question that it makes
abbrev pub GivesMade : FileLimits → List ℕ → Result QuestionView Refusal → Type 0
GivesMade limits bytes (Ok q) = (x : SharingView) × IsMakeable limits bytes x × (made_question x ≡ q)
GivesMade limits bytes (Err Shape) = (x : SharingView) → IsMakeable limits bytes x → ⊥
GivesMade limits bytes (Err Memory) = Unit {0}

-- what the reader of what an object is about gave: the question that is asked
abbrev pub GivesSource : FileLimits → Data → Result QuestionView Refusal → Type 0
GivesSource limits d (Ok q) = (source : Source) × IsSourceOf limits d source × (asked source ≡ q)
GivesSource limits d (Err Shape) = (source : Source) → IsSourceOf limits d source → ⊥
GivesSource limits d (Err Memory) = Unit {0}

-- what the reader of what a line is about gave: the question that is asked, or the key at fault
abbrev pub GivesAsked : FileLimits → Data → Result QuestionView ReportFault → Type 0
GivesAsked limits d (Ok q) = GivesSource limits d (Ok q)
GivesAsked limits d (Err (faults.Shape key)) = (key ≡ source_key d) × ((source : Source) → IsSourceOf limits d source → ⊥)
GivesAsked limits d (Err faults.NotJson) = ⊥
GivesAsked limits d (Err faults.Memory) = Unit {0}

-- what the reader of a value gave
abbrev pub ReadsValue : FileLimits → Data → Result Reported ReportFault → Type 0
ReadsValue limits d (Ok r) = (reading : Reading) × IsReported reading r × ReadsAs limits d (Ok reading)
ReadsValue limits d (Err (faults.Shape key)) = ReadsAs limits d (Err key)
ReadsValue limits d (Err faults.NotJson) = ⊥
ReadsValue limits d (Err faults.Memory) = Unit {0}
