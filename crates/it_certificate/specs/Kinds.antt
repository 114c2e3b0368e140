-- The words of reports: kinds of answers and of causes, marks of rows, sides of an equality.
use Rattle.std.specs.Prelude.{ℕ, List, [], ◌∷◌, Bool, true, false, if◌then◌else◌, codes, Option, Some, None, bytes_eq}
use Rattle.std.specs.List.{find}
use Rattle.std.specs.Map.{lookup}
use Rattle.it_space.specs.Answers.{mark_word}
use Rattle.it_space.specs.declared.answers.Mark.{Mark}
use Rattle.it_space.specs.declared.answers.Mark.TheVariants as marks
use Rattle.it_certificate.specs.declared.kinds.AnswerKind.{AnswerKind}
use Rattle.it_certificate.specs.declared.kinds.AnswerKind.TheVariants as answers
use Rattle.it_certificate.specs.declared.kinds.CauseKind.{CauseKind}
use Rattle.it_certificate.specs.declared.kinds.CauseKind.TheVariants as causes

-- the kind of answer of a word
abbrev pub answer_kind_of : List ℕ → Option AnswerKind
answer_kind_of text = lookup (bytes_eq text)
    ((codes "yes", answers.Yes) ∷ (codes "no", answers.No) ∷ (codes "undecided", answers.Undecided)
    ∷ (codes "region", answers.Region) ∷ (codes "contained", answers.Contained) ∷ (codes "open", answers.Open) ∷ [])

-- the kind of cause of a word
abbrev pub cause_kind_of : List ℕ → Option CauseKind
cause_kind_of text = lookup (bytes_eq text)
    ((codes "pivots", causes.Pivots) ∷ (codes "width", causes.Width) ∷ (codes "scale", causes.Scale) ∷ (codes "rows", causes.Rows) ∷ [])

-- the mark of a word
abbrev pub mark_of : List ℕ → Option Mark
mark_of text = find (λ mark. bytes_eq text (mark_word mark)) (marks.Plain ∷ marks.Needed ∷ marks.Unsettled ∷ [])

-- whether a word names the second side; `back` is there for an equality alone
abbrev pub back_of : Bool → List ℕ → Option Bool
back_of equality text =
    if bytes_eq text (codes "forward") then Some false else
    if bytes_eq text (codes "back") then (if equality then Some true else None) else None
