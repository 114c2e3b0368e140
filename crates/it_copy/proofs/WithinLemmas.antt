-- The questions of a file with a head are within the limits.
use Rattle.std.proofs.Common.{◌≡◌, ℕ, List, [], length, drop, All, Ok, Err, refl, sym, subst, arith}
use Rattle.std.proofs.lemmas.List.Elements.{All-weaker}
use Rattle.it_forms.specs.FormReading.{read}
use Rattle.it_forms.specs.Letters.{Letter}
use Rattle.it_forms.specs.Reads.{Reads, ◌>>=◌}
use Rattle.it_question.specs.Limits.{IsQuestion}
use Rattle.it_question.specs.Lines.{LineView, letters_of_lines}
use Rattle.it_question.specs.QuestionForms.{file}
use Rattle.it_question.specs.declared.sizes.FileLimits.{FileLimits}
use Rattle.it_question.specs.Questions.{BodyView, QuestionView}
use Rattle.it_question.specs.Texts.{with_texts}
use Rattle.it_question.proofs.FileReadings.{body_again, from_map}
use Rattle.it_question.proofs.LimitLemmas.{IsRead, file_limited, within_any}
use Rattle.it_question.proofs.WholeFileLemmas.{asked_is_read}
use Rattle.it_copy.specs.CopyForms.{more_copies, copy_file}
use Rattle.it_copy.specs.CopyLines.{CopyView}
use Rattle.it_copy.specs.Files.{copies_with_questions, CopiedQuestionsAreWithin, IsCopyFile}
use Rattle.it_copy.proofs.CopyOutlines.{copy_file_has}

-- the questions that were read keep the limits
abbrev IfKept : FileLimits → Reads (List CopyView × List BodyView) → Type 0
IfKept limits (Ok w) = All (IsRead limits) w.0.1
IfKept limits (Err e) = Unit {0}

by_file : (limits : FileLimits) (cs : List CopyView) (x : Reads (List BodyView)) → ((z : List BodyView × List Letter) → x ≡ Ok z → All (IsRead limits) z.0)
    → IfKept limits (x >>= λ z. Ok ((cs, z.0), z.1))
by_file limits cs (Ok z) h = h z refl
by_file limits cs (Err e) h = tt

by_head : (limits : FileLimits) (x : Reads (List CopyView)) → IfKept limits (x >>= λ a. read (file limits) a.1 >>= λ z. Ok ((a.0, z.0), z.1))
by_head limits (Ok a) = by_file limits a.0 (read (file limits) a.1) (λ z e. file_limited limits a.1 z.1 z.0 e)
by_head limits (Err e) = tt

all_kept : (limits : FileLimits) (ls : List Letter) → IfKept limits (read (copy_file limits) ls)
unfolding read copy_file
all_kept limits ls = by_head limits (read (more_copies []) ls)

-- with their texts too
texts_are_read : (limits : FileLimits) (lines : List LineView) (ys : List BodyView) → All (IsRead limits) ys
    → All (λ (q : QuestionView). IsRead limits q.body) (with_texts lines ys)
texts_are_read limits lines ys h = from_map (IsRead limits) (λ (q : QuestionView). q.body) (with_texts lines ys)
    (subst (All (IsRead limits)) (sym (body_again lines ys)) h)

-- the questions of a file with a head are within its limits
pub copied_are_read : (limits : FileLimits) (bytes : List ℕ) (copies : List CopyView) (qs : List QuestionView) → IsCopyFile limits bytes copies qs
    → All (λ (q : QuestionView). IsRead limits q.body) qs
copied_are_read limits bytes copies qs s =
    let ys = s.tree.0.1 in
    let read_ys = subst (IfKept limits) (asked_is_read (copy_file limits) _ (copy_file_has limits) copies_with_questions bytes (copies, qs) s)
    (all_kept limits (letters_of_lines s.lines)) in
    subst (λ (w : List CopyView × List QuestionView). All (λ (q : QuestionView). IsRead limits q.body) w.1) s.says
    (texts_are_read limits (drop (length s.tree.0.0) s.lines) ys read_ys)

pub copied_questions_are_within : CopiedQuestionsAreWithin
copied_questions_are_within limits bytes copies qs s = All-weaker (λ (q : QuestionView). IsRead limits q.body)
    (λ (q : QuestionView). IsQuestion q.body) (λ q h. within_any limits q.body h.limits) qs (copied_are_read limits bytes copies qs s)
