-- The file of generated questions: each asks of four variables whether a sum of three elemental inequalities, with drawn coefficients,
-- is at least a drawn multiple of a drawn entropy.
use Rattle.std.specs.Prelude.{◌≡◌, ℕ, zero, suc, ◌+◌, ◌≤◌, List, [], ◌∷◌, ◌++◌, length, All, codes, decimal}
use Rattle.it_polymatroid.specs.Elementals.{elemental_at}
use Rattle.it_question.specs.Questions.{QuestionView, VerbView, Prove, Eliminate, Contain}
use Rattle.it_question.specs.Files.{IsFile}
use Rattle.it_print.specs.Lines.{set_text, elemental_text}
use Rattle.it_gen.specs.Draws.{state_after, draw}
use Rattle.it_question.specs.QuestionLimits.{most_file_bytes}

-- the names of the variables
abbrev pub four_names : List (List ℕ)
four_names = codes "A" ∷ codes "B" ∷ codes "C" ∷ codes "D" ∷ []

-- two draws: a coefficient from 1 to 4, and which of the 28 elemental inequalities
unfoldable pub generated_term_text : ℕ → List ℕ
generated_term_text x = decimal (1 + draw 1 4 x) ++ codes " " ++ elemental_text four_names (elemental_at 4 (draw 2 28 x))

-- two draws: a factor from 0 to 2, and which of the 15 nonempty sets
unfoldable pub bound_text : ℕ → List ℕ
bound_text x = decimal (draw 1 3 x) ++ codes " H(" ++ set_text four_names (1 + draw 2 15 x) ++ codes ")"

-- the question of the eight draws from state x
unfoldable pub question_text : ℕ → List ℕ
question_text x =
    codes "vars A, B, C, D\nprove " ++ generated_term_text x ++ codes " + " ++ generated_term_text (state_after 2 x) ++ codes " + " ++ generated_term_text (state_after 4 x)
    ++ codes " >= " ++ bound_text (state_after 6 x) ++ codes "\n"

-- `count` questions, one after the other, by draws from the state `seed`
abbrev pub generated_file : ℕ → ℕ → List ℕ
generated_file seed zero = []
generated_file seed (suc count) = question_text seed ++ generated_file (state_after 8 seed) count

-- ---- what the file is

-- the verb of q is `prove`
abbrev pub IsProve : QuestionView → Type 0
IsProve q = IsVerbProve q.body.verb
  where
    IsVerbProve : VerbView → Type 0
    IsVerbProve (Prove r) = Unit {0}
    IsVerbProve (Eliminate rates) = ⊥
    IsVerbProve (Contain first second tries) = ⊥

-- the bytes are a question file of `count` questions with the verb `prove`, no longer than a file may be
pub record IsProveFile (bytes : List ℕ) (count : ℕ) : Type 0 where
  pub questions : List QuestionView
  pub asked : IsFile bytes questions
  pub counted : length questions ≡ count
  pub prove : All IsProve questions
  pub short : length bytes ≤ most_file_bytes

-- Up to the greatest number of questions of a file, the generated questions are such a file.
abbrev pub GeneratedIsFile : Type 0
GeneratedIsFile = (seed count : ℕ) → count ≤ 1000 → IsProveFile (generated_file seed count) count
