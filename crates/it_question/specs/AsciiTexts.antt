-- The bytes of a question's text and of its names are ASCII.
use Rattle.std.specs.Prelude.{ℕ, List, All, IsAscii}
use Rattle.it_question.specs.Questions.{QuestionView}
use Rattle.it_question.specs.Files.{IsFileWithin}
use Rattle.it_question.specs.declared.sizes.FileLimits.{FileLimits}

-- the question's text and the names that it declares are ASCII
pub record IsAsciiQuestion (q : QuestionView) : Type 0 where
  pub text : IsAscii q.text
  pub variables : All IsAscii q.body.names.variables
  pub rates : All IsAscii q.body.names.rates

-- Each question that a file asks is ASCII, whatever stands in the file's comments.
abbrev pub TextsAreAscii : Type 0
TextsAreAscii = (limits : FileLimits) (bytes : List ℕ) (qs : List QuestionView) → IsFileWithin limits bytes qs → All IsAsciiQuestion qs
