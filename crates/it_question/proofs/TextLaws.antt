-- The text of a question reads as that question alone.
use Rattle.std.specs.Prelude.{codes, None}
use Rattle.std.proofs.Common.{◌≡◌, ℕ, List, [], ◌∷◌, ◌++◌, take, drop, sym, ap, ◌∙◌, subst}
use Rattle.it_forms.specs.Letters.{Letter, Word, FlaggedLetters, without_flags}
use Rattle.it_forms.specs.Forms.{Spells}
use Rattle.it_forms.proofs.LetterLemmas.{cleaned_append}
use Rattle.it_question.specs.Files.{IsFileWithin, TextReadsBack}
use Rattle.it_question.specs.Lines.{LineView, split_lines, file_end, letters_of_lines}
use Rattle.it_question.specs.QuestionForms.{file}
use Rattle.it_question.specs.declared.sizes.FileLimits.{FileLimits}
use Rattle.it_question.specs.Questions.{BodyView, QuestionView}
use Rattle.it_question.specs.LineTexts.{text_of_lines}
use Rattle.it_question.specs.Texts.{question_line_count, with_texts}
use Rattle.it_question.proofs.FileLemmas.{alone}
use Rattle.it_question.proofs.LineParts.{lines_sound, texts_of}
use Rattle.it_question.proofs.QuestionParts.{QuestionAt, AreAt, questions_at}
use Rattle.it_question.proofs.TextLines.{read_again}
use Rattle.it_question.proofs.WholeFileLemmas.{the_end, said, says_file}

-- the first of the questions of these lines, with its text
first_of : BodyView → List LineView → QuestionView
first_of q lines = record { body = q; text = text_of_lines (texts_of (take (question_line_count q) lines)) }

first_alone : (limits : FileLimits) (q : BodyView) (lines : List LineView) → QuestionAt limits lines q
    → IsFileWithin limits (first_of q lines).text (first_of q lines ∷ [])
unfolding first_of
first_alone limits q lines h =
    let t = read_again 1 (take (question_line_count q) lines) h.whole in
    let spelled : (Word (codes "vars"), None) ∷ (without_flags h.said ++ the_end) ≡ without_flags (letters_of_lines t.again) =
    sym (cleaned_append (Word (codes "vars") ∷ h.said) (file_end ∷ [])) ∙ ap without_flags (ap (λ (ls : List Letter). ls ++ file_end ∷ []) (sym h.first) ∙ sym t.same) in
    let says = subst (λ (m : FlaggedLetters). Spells (file limits) (q ∷ []) m []) spelled (alone limits q (without_flags h.said) h.says) in
    subst (λ (text : List ℕ). IsFileWithin limits (first_of q lines).text (record { body = q; text = text } ∷ []))
    (ap (λ (i : ℕ). text_of_lines (texts_of (take i t.again))) (sym h.long) ∙ t.text)
    (says_file (file limits) with_texts (first_of q lines).text t.again (q ∷ []) t.cut says)

one_question_file : (limits : FileLimits) (qs : List BodyView) (lines : List LineView) (prefix rs : List QuestionView) (q : QuestionView)
    → AreAt limits lines qs
    → with_texts lines qs ≡ prefix ++ q ∷ rs → IsFileWithin limits q.text (q ∷ [])
unfolding first_of
one_question_file limits [] lines [] rs q a h = absurd cc
one_question_file limits [] lines (f ∷ prefix) rs q a h = absurd cc
one_question_file limits (b ∷ qs) lines [] rs q a h = let first : first_of b lines ≡ q = cc
    in subst (λ (y : QuestionView). IsFileWithin limits y.text (y ∷ [])) first (first_alone limits b lines a.0)
one_question_file limits (b ∷ qs) lines (f ∷ prefix) rs q a h = let tails : with_texts (drop (question_line_count b) lines) qs
    ≡ prefix ++ q ∷ rs = cc in one_question_file limits qs (drop (question_line_count b) lines) prefix rs q a.1 tails

pub text_reads_back : TextReadsBack
text_reads_back limits bytes qs rs q prefix asked e =
    one_question_file limits asked.tree.0 asked.lines prefix rs q (questions_at limits asked.lines asked.tree.0
    (lines_sound 1 (split_lines bytes) asked.lines asked.cut) (said (file limits) with_texts bytes qs asked)) (asked.says ∙ e)
