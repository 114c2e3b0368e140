-- What a file asks, and the first fault of one that has no reading.
use Rattle.std.specs.Prelude.{◌≡◌, ℕ, List, [], ◌∷◌, ◌++◌, ◌⊎◌, codes, None}
use Rattle.it_forms.specs.declared.types.Code.{Code}
use Rattle.it_forms.specs.Forms.{Spells}
use Rattle.it_forms.specs.Letters.{Word, FlaggedLetters}
use Rattle.it_question.specs.declared.sizes.FileLimits.{FileLimits}
use Rattle.it_question.specs.declared.types.FileFault.{FileFault}
use Rattle.it_question.specs.Lines.{file_end}
use Rattle.it_question.specs.Questions.{BodyView, QuestionView}
use Rattle.it_question.specs.QuestionForms.{question, file}
use Rattle.it_question.specs.QuestionLimits.{usual}
use Rattle.it_question.specs.Texts.{with_texts}
use Rattle.it_question.specs.WholeForms.{SaysInForm, FormFaultAt, IsFirstFormFault}

-- the bytes ask these questions, in a file with these limits
abbrev pub IsFileWithin : FileLimits → List ℕ → List QuestionView → Type 0
IsFileWithin limits bytes qs = SaysInForm (file limits) with_texts bytes qs

-- the bytes ask these questions
abbrev pub IsFile : List ℕ → List QuestionView → Type 0
IsFile bytes qs = IsFileWithin usual bytes qs

-- the first fault of these bytes, as a file with these limits, is `code`, at this line and column
abbrev pub FileFaultWithin : FileLimits → List ℕ → ℕ → ℕ → Code → Type 0
FileFaultWithin limits bytes line column code = FormFaultAt (file limits) bytes line column code

-- the first fault of these bytes is `code`, at this line and column
abbrev pub FileFaultAt : List ℕ → ℕ → ℕ → Code → Type 0
FileFaultAt bytes line column code = FileFaultWithin usual bytes line column code

-- of an error: memory ran out, or it is the first fault of a file with these limits
abbrev pub IsFirstFaultWithin : FileLimits → List ℕ → FileFault → Type 0
IsFirstFaultWithin limits bytes fault = IsFirstFormFault (file limits) bytes fault

-- ---- laws, whatever the limits are

-- a file has at most one reading
abbrev pub FileIsOne : Type 0
FileIsOne = (limits : FileLimits) (bytes : List ℕ) (qs rs : List QuestionView) → IsFileWithin limits bytes qs → IsFileWithin limits bytes rs
    → qs ≡ rs

-- a file has at most one first fault, with its place and its code
abbrev pub FileFaultIsOne : Type 0
FileFaultIsOne = (limits : FileLimits) (bytes : List ℕ) (line column row place : ℕ) (c d : Code)
    → FileFaultWithin limits bytes line column c → FileFaultWithin limits bytes row place d
    → (line ≡ row) × (column ≡ place) × (c ≡ d)

-- no file has both a reading and a first fault
abbrev pub FileOrFault : Type 0
FileOrFault = (limits : FileLimits) (bytes : List ℕ) (qs : List QuestionView) (line column : ℕ) (c : Code) → IsFileWithin limits bytes qs
    → FileFaultWithin limits bytes line column c → ⊥

-- A file has a reading or a first fault.
abbrev pub FileHasOne : Type 0
FileHasOne = (limits : FileLimits) (bytes : List ℕ)
    → ((qs : List QuestionView) × IsFileWithin limits bytes qs)
    ⊎ ((line : ℕ) × (column : ℕ) × (c : Code) × FileFaultWithin limits bytes line column c)

-- The text of a question reads as that question alone.
abbrev pub TextReadsBack : Type 0
TextReadsBack = (limits : FileLimits) (bytes : List ℕ) (qs rs : List QuestionView) (q : QuestionView) (prefix : List QuestionView)
    → IsFileWithin limits bytes qs → qs ≡ prefix ++ q ∷ rs
    → IsFileWithin limits q.text (q ∷ [])

-- What says a question says that question alone, between `vars` and the file's end.
abbrev pub QuestionStandsAlone : Type 0
QuestionStandsAlone = (limits : FileLimits) (q : BodyView) (m k : FlaggedLetters) → Spells (question limits) q m k
    → (prefix : FlaggedLetters) × ((m ≡ prefix ++ k) × Spells (file limits) (q ∷ []) ((Word (codes "vars"), None) ∷ (prefix ++ (file_end, None) ∷ [])) [])
