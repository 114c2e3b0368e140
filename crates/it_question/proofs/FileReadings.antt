-- What the reading of a file's letters says of the file.
use Rattle.std.proofs.Common.{◌≡◌, ◌≤◌, ℕ, List, [], ◌∷◌, length, drop, map, All, Ok, refl, sym, ap, ◌∙◌, subst, arith}
use Rattle.std.proofs.lemmas.List.Elements.{All-cons, All-head, All-tail, All-weaker}
use Rattle.it_forms.specs.FormReading.{read}
use Rattle.it_forms.specs.Letters.{Letter}
use Rattle.it_question.specs.declared.sizes.FileLimits.{FileLimits}
use Rattle.it_question.specs.declared.bodies.Body.{Body}
use Rattle.it_question.specs.Bodies.{body_view}
use Rattle.it_question.specs.Files.{IsFile, IsFileWithin}
use Rattle.it_question.specs.Limits.{IsQuestion}
use Rattle.it_question.specs.Lines.{LineView, AreLinesOf, letters_of_lines}
use Rattle.it_question.specs.QuestionForms.{file}
use Rattle.it_question.specs.QuestionLimits.{most_names, usual}
use Rattle.it_question.specs.Questions.{BodyView, QuestionView}
use Rattle.it_question.specs.TableSizes.{HasSmallTable}
use Rattle.it_question.specs.Texts.{question_line_count, with_texts}
use Rattle.it_question.proofs.FileLemmas.{file_ends}
use Rattle.it_question.proofs.LimitLemmas.{IsRead, few_usual_names, file_limited, within_any}
use Rattle.it_question.proofs.QuestionOutlines.{file_has}
use Rattle.it_question.proofs.WholeFileLemmas.{asked_is_read, read_says}

-- a file whose letters were read
pub file_read : (limits : FileLimits) (bytes : List ℕ) (lines : List LineView) (ys : List BodyView) (r : List Letter) (qs : List QuestionView)
    → AreLinesOf bytes lines → read (file limits) (letters_of_lines lines) ≡ Ok (ys, r) → qs ≡ with_texts lines ys → IsFileWithin limits bytes qs
file_read limits bytes lines ys r qs cut e are = subst (IsFileWithin limits bytes) (sym are)
    (read_says (file limits) _ (file_has limits) (file_ends limits) with_texts bytes lines ys r cut e)

-- the questions with their texts are those that were read
pub body_again : (lines : List LineView) (ys : List BodyView) → map (λ (q : QuestionView). q.body) (with_texts lines ys) ≡ ys
body_again lines [] = refl
body_again lines (y ∷ ys) = ap (λ (qs : List BodyView). y ∷ qs) (body_again (drop (question_line_count y) lines) ys)

-- what holds of each of some values holds of what they are made from
pub from_map : {X Y : Type 0} (P : Y → Type 0) (f : X → Y) (xs : List X) → All P (map f xs) → All (λ x. P (f x)) xs
from_map P f [] h = λ k d lt. absurd (omega (arith, lt))
from_map P f (x ∷ xs) h = All-cons (λ y. P (f y)) x xs (All-head P (f x) (map f xs) h) (from_map P f xs (All-tail P (f x) (map f xs) h))

all_limited : (limits : FileLimits) (ls r : List Letter) (ys : List BodyView) → read (file limits) ls ≡ Ok (ys, r) → All IsQuestion ys
all_limited limits ls r ys e = All-weaker (IsRead limits) IsQuestion (λ q h. within_any limits q h.limits) ys (file_limited limits ls r ys e)

pub bodies_limited : (limits : FileLimits) (bodies : List Body) (lines : List LineView) (r : List Letter)
    → read (file limits) (letters_of_lines lines) ≡ Ok (map body_view bodies, r) → All (λ b. IsQuestion (body_view b)) bodies
bodies_limited limits bodies lines r e = from_map IsQuestion body_view bodies (all_limited limits (letters_of_lines lines) r (map body_view bodies) e)

pub questions_limited : (limits : FileLimits) (qs : List QuestionView) (lines : List LineView) (ys : List BodyView) (r : List Letter)
    → read (file limits) (letters_of_lines lines) ≡ Ok (ys, r) → qs ≡ with_texts lines ys
    → All (λ q. IsQuestion q.body) qs
questions_limited limits qs lines ys r e are =
    let same : map (λ (q : QuestionView). q.body) qs ≡ ys = ap (map (λ (q : QuestionView). q.body)) are ∙ body_again lines ys in
    from_map IsQuestion (λ (q : QuestionView). q.body) qs (subst (All IsQuestion) (sym same)
    (all_limited limits (letters_of_lines lines) r ys e))

-- the questions of a file with these limits are read
file_is_read : (limits : FileLimits) (bytes : List ℕ) (qs : List QuestionView) → IsFileWithin limits bytes qs
    → All (λ (q : QuestionView). IsRead limits q.body) qs
file_is_read limits bytes qs asked =
    from_map (IsRead limits) (λ (q : QuestionView). q.body) qs (subst (All (IsRead limits))
    (sym (body_again asked.lines asked.tree.0) ∙ ap (map (λ (q : QuestionView). q.body)) asked.says)
    (file_limited limits (letters_of_lines asked.lines) [] asked.tree.0
    (asked_is_read (file limits) _ (file_has limits) with_texts bytes qs asked)))

-- so they keep the limits of a question
pub file_limits : (limits : FileLimits) (bytes : List ℕ) (qs : List QuestionView)
    → IsFileWithin limits bytes qs → All (λ (q : QuestionView). IsQuestion q.body) qs
file_limits limits bytes qs asked = All-weaker (λ (q : QuestionView). IsRead limits q.body) (λ (q : QuestionView). IsQuestion q.body)
    (λ q h. within_any limits q.body h.limits) qs (file_is_read limits bytes qs asked)

-- in a usual file they have few names
pub file_has_few_names : (bytes : List ℕ) (qs : List QuestionView) → IsFile bytes qs
    → All (λ (q : QuestionView). length q.body.names.variables ≤ most_names) qs
file_has_few_names bytes qs asked = All-weaker (λ (q : QuestionView). IsRead usual q.body)
    (λ (q : QuestionView). length q.body.names.variables ≤ most_names) (λ q h. few_usual_names q.body h.limits) qs (file_is_read usual bytes qs asked)

-- and their tables aren't too large
pub file_has_small_tables : (bytes : List ℕ) (qs : List QuestionView) → IsFile bytes qs → All (λ (q : QuestionView). HasSmallTable q.body) qs
file_has_small_tables bytes qs asked = All-weaker (λ (q : QuestionView). IsRead usual q.body) (λ (q : QuestionView). HasSmallTable q.body)
    (λ q h. h.small) qs (file_is_read usual bytes qs asked)
