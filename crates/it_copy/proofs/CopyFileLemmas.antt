-- A file with a head asks one thing or has one first fault.
use Rattle.std.proofs.Common.{◌≡◌, ℕ, ◌+◌, ◌-◌, List, [], ◌∷◌, ◌++◌, length, length-append, drop, map, All, Ok, refl, sym, ap, ◌∙◌, subst, inl, inr, arith}
use Rattle.std.proofs.lemmas.List.Elements.{All-weaker}
use Rattle.std.specs.Prelude.{codes}
use Rattle.it_forms.specs.Forms.{Keyword, Give, Then, Spells}
use Rattle.it_forms.specs.FormReading.{read}
use Rattle.it_forms.specs.FormTexts.{spelling}
use Rattle.it_forms.specs.Letters.{Letter, FlaggedLetters}
use Rattle.it_forms.specs.Words.{limit_flag, to_end}
use Rattle.it_forms.proofs.LineEnds.{HasNoEnd}
use Rattle.it_question.specs.declared.bodies.Body.{Body}
use Rattle.it_question.specs.Bodies.{body_view}
use Rattle.it_question.specs.Limits.{IsQuestion}
use Rattle.it_question.specs.Lines.{LineView, AreLinesOf, letters_of_lines}
use Rattle.it_question.specs.QuestionForms.{file}
use Rattle.it_question.specs.declared.sizes.FileLimits.{FileLimits}
use Rattle.it_question.specs.Questions.{BodyView, QuestionView}
use Rattle.it_question.specs.Texts.{with_texts}
use Rattle.it_question.proofs.FileLemmas.{file_ends}
use Rattle.it_question.proofs.FileReadings.{body_again, from_map}
use Rattle.it_question.proofs.LimitLemmas.{IsRead, file_limited, within_any}
use Rattle.it_question.proofs.Puts.{puts_at, lines_then, line_puts}
use Rattle.it_question.proofs.QuestionLines.{Grows, turns_grow}
use Rattle.it_question.proofs.WholeFileLemmas.{EndsFile, form_is_one, form_has_one, read_says, whole_fault_is_one, whole_or_fault}
use Rattle.it_copy.specs.CopyForms.{member, more_members, over, copy, more_copies, copy_file}
use Rattle.it_copy.specs.CopyLines.{CopyView, most_copies}
use Rattle.it_copy.specs.Files.{copies_with_questions, IsCopyFile, CopyFileIsOne, CopyFaultIsOne, CopyFileOrFault, CopyFileHasOne}
use Rattle.it_copy.proofs.CopyOutlines.{copy_file_has}

-- ---- a file with a head is written as whole lines before the file's end

over_has_no_end : HasNoEnd over
unfolding HasNoEnd over member more_members
over_has_no_end = (refl, λ u. tt, (refl, λ w. (refl, λ names u. (refl, λ w. tt))))

copy_has_no_end : HasNoEnd copy
unfolding HasNoEnd copy member
copy_has_no_end = (refl, λ fresh. (refl, λ u. (refl, λ old. (refl, λ u. (over_has_no_end, λ set. tt)))))

pub copies_lines : (cs all : List CopyView) (m k : FlaggedLetters) → Spells (more_copies cs) all m k → Grows length cs all m k
unfolding more_copies Spells
copies_lines cs all m k s =
    turns_grow (λ (cs : List CopyView). record { kinds = Keyword (codes "copy") ∷ []; says = λ l. (limit_flag (most_copies - length cs), tt {0}) }) (λ cs u. Spells (Then (to_end copy) (λ c. Give (cs ++ c ∷ [])))) length (λ cs. refl) (λ cs u c m k t. (0, puts_at (line_puts copy copy_has_no_end t.0 m t.1 t.2) t.3.1, sym (ap length t.3.0) ∙ omega (arith, length-append cs (t.0 ∷ [])))) s.0 cs all m k s.1

pub copy_file_ends : (limits : FileLimits) → EndsFile (copy_file limits)
unfolding copy_file Spells
copy_file_ends limits y m s =
    let head = copies_lines [] s.0 m s.1 s.2 in
    let questions = file_ends limits s.3.0 s.1 (subst (Spells (file limits) s.3.0 s.1) s.3.3.1 s.3.2) in
    (head.lines + questions.0, lines_then head.lines questions.0 head.puts questions.1)

-- ---- one reading or one first fault

pub copy_file_is_one : CopyFileIsOne
copy_file_is_one limits bytes copies others qs rs s t =
    let same = form_is_one (copy_file limits) _ (copy_file_has limits) copies_with_questions bytes (copies, qs) (others, rs) s t in
    (ap (λ (y : List CopyView × List QuestionView). y.0) same, ap (λ (y : List CopyView × List QuestionView). y.1) same)

pub copy_fault_is_one : CopyFaultIsOne
copy_fault_is_one limits = whole_fault_is_one (spelling (copy_file limits))

pub copy_file_or_fault : CopyFileOrFault
copy_file_or_fault limits bytes copies qs = whole_or_fault (spelling (copy_file limits)) (λ lines x. copies_with_questions lines x.0) bytes (copies, qs)

pub copy_file_has_one : CopyFileHasOne
copy_file_has_one limits bytes = elim (form_has_one (copy_file limits) _ (copy_file_has limits) (copy_file_ends limits) copies_with_questions bytes) [
  | inl h ↦ inl (h.0.0, h.0.1, h.1)
  | inr h ↦ inr h
]

-- a file whose letters were read
pub copy_file_read : (limits : FileLimits) (bytes : List ℕ) (lines : List LineView) (copies : List CopyView) (ys : List BodyView) (r : List Letter)
    (qs : List QuestionView) → AreLinesOf bytes lines → read (copy_file limits) (letters_of_lines lines) ≡ Ok ((copies, ys), r)
    → qs ≡ with_texts (drop (length copies) lines) ys → IsCopyFile limits bytes copies qs
copy_file_read limits bytes lines copies ys r qs cut e are = subst (IsCopyFile limits bytes copies) (sym are)
    (read_says (copy_file limits) _ (copy_file_has limits) (copy_file_ends limits) copies_with_questions bytes lines (copies, ys) r cut e)

-- ---- the limits of questions

-- questions that are read keep the limits
pub bodies_keep_limits : (limits : FileLimits) (bodies : List Body) (ls r : List Letter) → read (file limits) ls ≡ Ok (map body_view bodies, r)
    → All (λ b. IsQuestion (body_view b)) bodies
bodies_keep_limits limits bodies ls r e = from_map IsQuestion body_view bodies
    (All-weaker (IsRead limits) IsQuestion (λ q h. within_any limits q h.limits) (map body_view bodies)
    (file_limited limits ls r (map body_view bodies) e))

-- with their texts too
pub texts_keep_limits : (lines : List LineView) (ys : List BodyView) → All IsQuestion ys → All (λ (q : QuestionView). IsQuestion q.body) (with_texts lines ys)
texts_keep_limits lines ys h = from_map IsQuestion (λ (q : QuestionView). q.body) (with_texts lines ys) (subst (All IsQuestion) (sym (body_again lines ys)) h)

pub questions_keep_limits : (qs : List QuestionView) (lines : List LineView) (ys : List BodyView) → All IsQuestion ys
    → qs ≡ with_texts lines ys → All (λ q. IsQuestion q.body) qs
questions_keep_limits qs lines ys h are = subst (All (λ (q : QuestionView). IsQuestion q.body)) (sym are) (texts_keep_limits lines ys h)
