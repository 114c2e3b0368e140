-- The grammar of files with a head, whose lines ask for copies. `Word` flags H and I in the place of a name, `Many` the first letter past
-- a limit.
use Rattle.std.specs.Prelude.{ℕ, ◌-◌, false, List, [], ◌∷◌, ◌++◌, length, codes}
use Rattle.it_forms.specs.declared.types.Symbol.TheVariants.{Comma}
use Rattle.it_syntax.specs.MeasureWords.{is_measure}
use Rattle.it_question.specs.NewNames.{new_flag}
use Rattle.it_question.specs.QuestionForms.{file}
use Rattle.it_question.specs.declared.sizes.FileLimits.{FileLimits}
use Rattle.it_question.specs.Questions.{BodyView}
use Rattle.it_copy.specs.CopyLines.{CopyView, most_copies, most_members}
use Rattle.it_forms.specs.Forms.{Form, Give, Take, If}
use Rattle.it_forms.specs.Words.{◌>>=◌, ◌>>◌, word, any_word, each_after, each_flagged, to_end, zero_alone, limit_flag}

-- a name, where n more are allowed
unfoldable pub member : ℕ → Form (List ℕ)
member n = Take (any_word (λ w. (new_flag (is_measure w) false n, w)))

-- the names `names` and further ones, each after a comma, at most 4 in all
unfoldable pub more_members : List (List ℕ) → Form (List (List ℕ))
more_members names = each_after Comma (λ names. member (most_members - length names)) (λ names w. names ++ w ∷ []) names

-- one or more names with commas between them
abbrev pub members : Form (List (List ℕ))
members = member most_members >>= λ w. more_members (w ∷ [])

-- `0`, or names
unfoldable pub over : Form (List (List ℕ))
over = If zero_alone (λ u. Give []) members

-- a copy, after `copy`
unfoldable pub copy : Form CopyView
copy = do
  fresh ← member 1
  Take (word (codes "of"))
  old ← member 1
  Take (word (codes "over"))
  set ← over
  Give (record { fresh = fresh; old = old; over = set })

-- the copies `cs` and further lines that ask for copies, at most 4 in all
unfoldable pub more_copies : List CopyView → Form (List CopyView)
more_copies cs = each_flagged (codes "copy") (λ cs. limit_flag (most_copies - length cs)) (λ cs. to_end copy) (λ cs c. cs ++ c ∷ []) cs

-- a head, and the question file after it, with these limits
unfoldable pub copy_file : FileLimits → Form (List CopyView × List BodyView)
copy_file limits = do
  copies ← more_copies []
  questions ← file limits
  Give (copies, questions)
