-- What a report line is about: the question of a text, that question with copies of its variables, or the one that a sharing file makes;
-- each within the limits of the files that it is read with.
use Rattle.std.specs.Prelude.{◌≡◌, ℕ, ◌+◌, ◌≤◌, List, [], ◌∷◌, ◌++◌, length, if◌then◌else◌, is_some, codes, Option, Some, None}
use Rattle.serde_json.specs.Data.{Data}
use Rattle.serde_json.specs.Find.{get}
use Rattle.it_question.specs.declared.sizes.FileLimits.{FileLimits}
use Rattle.it_question.specs.Files.{IsFileWithin}
use Rattle.it_question.specs.QuestionLimits.{most_lines, most_file_bytes}
use Rattle.it_question.specs.Questions.{QuestionView}
use Rattle.it_copy.specs.CopyLines.{CopyView}
use Rattle.it_copy.specs.Extensions.{IsExtension, extended}
use Rattle.it_copy.specs.Files.{IsCopyFile}
use Rattle.it_sharing.specs.SharingFiles.{IsSharingFile}
use Rattle.it_sharing.specs.Sharings.{SharingView, made_question, maximal_count, minimal_count}
use Rattle.it_certificate.specs.declared.keys.Key.{Key}
use Rattle.it_certificate.specs.declared.keys.Key.TheVariants as keys
use Rattle.it_certificate.specs.Parts.{text_of}
use Rattle.it_syntax.specs.Lines.{most_text_bytes}

-- a question, a question and the copies that it is to have, or a sharing file
pub data Source : Type 0 where
  Text : (question : QuestionView) → Source
  Copies : (question : QuestionView) (copies : List CopyView) → Source
  Sharing : (file : SharingView) → Source

-- the question that is asked: itself, with the copies, or that of perfect sharing
abbrev pub asked : Source → QuestionView
asked (Text q) = q
asked (Copies q copies) = record { body = extended q.body copies; text = [] }
asked (Sharing x) = made_question x

-- at most 1,048,577 bytes that are a file whose head asks for these copies in this one question, which can have them
pub record AsksOnly (limits : FileLimits) (bytes : List ℕ) (q : QuestionView) (copies : List CopyView) : Type 0 where
  pub short : length bytes ≤ most_text_bytes
  pub reads : IsCopyFile limits bytes copies (q ∷ [])
  pub extension : IsExtension limits q.body copies (extended q.body copies)

-- at most 1,048,576 bytes that are this sharing file, whose minimal and maximal sets aren't too many
pub record IsMakeable (limits : FileLimits) (bytes : List ℕ) (x : SharingView) : Type 0 where
  pub short : length bytes ≤ most_file_bytes
  pub reads : IsSharingFile limits bytes x
  pub few : minimal_count x + maximal_count x ≤ most_lines

-- There are neither `sharing` nor `copies`, and `question` is a text of at most 1,048,577 bytes that reads as this one question.
pub record IsQuestionText (limits : FileLimits) (d : Data) (q : QuestionView) : Type 0 where
  pub no_sharing : get (codes "sharing") d ≡ None
  pub no_copies : get (codes "copies") d ≡ None
  pub text : List ℕ
  pub there : text_of (get (codes "question") d) ≡ Some text
  pub short : length text ≤ most_text_bytes
  pub reads : IsFileWithin limits text (q ∷ [])

-- There is no `sharing`, and `copies` and `question` are texts. The first and then the second ask for these copies in this one question.
pub record IsTextWithCopies (limits : FileLimits) (d : Data) (q : QuestionView) (copies : List CopyView) : Type 0 where
  pub no_sharing : get (codes "sharing") d ≡ None
  pub head : List ℕ
  pub text : List ℕ
  pub head_there : text_of (get (codes "copies") d) ≡ Some head
  pub text_there : text_of (get (codes "question") d) ≡ Some text
  pub asks : AsksOnly limits (head ++ text) q copies

-- `sharing` is the text of this sharing file.
pub record IsSharingText (limits : FileLimits) (d : Data) (x : SharingView) : Type 0 where
  pub text : List ℕ
  pub there : text_of (get (codes "sharing") d) ≡ Some text
  pub makes : IsMakeable limits text x

-- the object is about this source
abbrev pub IsSourceOf : FileLimits → Data → Source → Type 0
IsSourceOf limits d (Text q) = IsQuestionText limits d q
IsSourceOf limits d (Copies q copies) = IsTextWithCopies limits d q copies
IsSourceOf limits d (Sharing x) = IsSharingText limits d x

-- the object is about this source, or about nothing
abbrev pub IsSourceAt : FileLimits → Data → Option Source → Type 0
IsSourceAt limits d (Some source) = IsSourceOf limits d source
IsSourceAt limits d None = (source : Source) → IsSourceOf limits d source → ⊥

-- the key that tells what the object is about: `sharing` where the object has it, else `copies` where it has that, else
-- `question`
unfoldable pub source_key : Data → Key
source_key d =
    if is_some (get (codes "sharing") d) then keys.Sharing else
    if is_some (get (codes "copies") d) then keys.Copies else keys.Question
