-- The head of a file: its lines that ask for copies, before the word `vars` or the file's end.
use Rattle.std.specs.Prelude.{◌≡◌, ℕ, ◌-◌, ◌≤◌, Bool, true, false, List, [], ◌∷◌, length, drop, codes}
use Rattle.it_forms.specs.declared.types.Code.{Code}
use Rattle.it_forms.specs.Forms.{Keyword, FileEnd, is_among, Spells}
use Rattle.it_forms.specs.Letters.{Letter, without_flags}
use Rattle.it_question.specs.declared.types.FileFault.{FileFault}
use Rattle.it_question.specs.declared.types.FileFault.TheVariants.{Memory, Fault}
use Rattle.it_question.specs.Lines.{LineView, AreLinesOf, split_lines, letters_of_lines}
use Rattle.it_question.specs.QuestionLimits.{usual}
use Rattle.it_copy.specs.CopyForms.{more_copies}
use Rattle.it_copy.specs.CopyLines.{CopyView}
use Rattle.it_copy.specs.Files.{CopyFileFaultAt}

-- whether the next letter is the word `vars` or the file's end
abbrev pub begins_questions : List Letter → Bool
begins_questions [] = false
begins_questions (l ∷ ls) = is_among (Keyword (codes "vars") ∷ FileEnd ∷ []) l

-- the number of lines of the file before the first of these
abbrev pub lines_before : List LineView → ℕ
lines_before [] = 0
lines_before (l ∷ lines) = l.number - 1

-- The bytes have this head, of `skipped` lines, and the question file after it begins at byte `from`: the first of the lines that have
-- tokens say these copies, one a line, and the next begins the questions.
pub record IsHead (bytes : List ℕ) (copies : List CopyView) (from skipped : ℕ) : Type 0 where
  pub lines : List LineView
  pub cut : AreLinesOf bytes lines
  pub rest : List LineView
  pub rest_is : rest ≡ drop (length copies) lines
  pub spells : Spells (more_copies []) copies (without_flags (letters_of_lines lines)) (without_flags (letters_of_lines rest))
  pub begins : begins_questions (letters_of_lines rest) ≡ true
  pub counted : skipped ≡ lines_before rest
  pub within : from ≤ length bytes
  pub after : split_lines (drop from bytes) ≡ drop skipped (split_lines bytes)

-- the bytes have no head
abbrev pub HasNoHead : List ℕ → Type 0
HasNoHead bytes = (copies : List CopyView) (from skipped : ℕ) → IsHead bytes copies from skipped → ⊥

-- the first fault of the head is `code`, at this place: it is the file's first fault, and the bytes have no head
abbrev pub HeadFaultAt : List ℕ → ℕ → ℕ → Code → Type 0
HeadFaultAt bytes line column code = HasNoHead bytes × CopyFileFaultAt usual bytes line column code

-- of an error: memory ran out, or it is the first fault
abbrev pub IsFirstHeadFault : List ℕ → FileFault → Type 0
IsFirstHeadFault bytes Memory = Unit {0}
IsFirstHeadFault bytes (Fault line column code) = HeadFaultAt bytes line column code
